use Rattle.std.proofs.Common.{◌≡◌, ◌<◌, ◌≤◌, ◌++◌, length, reverse, take}
use Rattle.cls_kinds.specs.Stacks.{stack_at, Grows}
use Rattle.cls_kinds.proofs.stacks.Stacks.add_all.Given as goal

abbrev pub invariant-loop-left : goal.invariant-loop-left
invariant-loop-left l = record {
  there : l.stack < length l.self;
  grows : Grows l.fn.self l.self;
  within : l.left ≤ length l.kinds;
  same : stack_at l.self l.stack ++ reverse (take l.left l.kinds) ≡ stack_at l.fn.self l.below ++ reverse l.kinds;
}

abbrev pub decreases-loop-left : goal.decreases-loop-left
decreases-loop-left l = l.left
