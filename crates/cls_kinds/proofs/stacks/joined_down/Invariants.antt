use Rattle.std.proofs.Common.{◌≡◌, ◌<◌, ◌++◌, length, reverse}
use Rattle.cls_kinds.specs.Numbers.{joined_all}
use Rattle.cls_kinds.specs.Stacks.{stack_at, stacks_of}
use Rattle.cls_kinds.proofs.stacks.joined_down.Given as goal

abbrev pub invariant-down : goal.invariant-down
invariant-down l = record {
  first : l.a < length (stacks_of l.nodes);
  second : l.b < length (stacks_of l.nodes);
  even : length (stack_at (stacks_of l.nodes) l.a) ≡ length (stack_at (stacks_of l.nodes) l.b);
  same : joined_all (stack_at (stacks_of l.nodes) l.a) (stack_at (stacks_of l.nodes) l.b) ++ reverse l.kinds.items
      ≡ joined_all (stack_at (stacks_of l.nodes) l.fn.first) (stack_at (stacks_of l.nodes) l.fn.second);
}

abbrev pub decreases-down : goal.decreases-down
decreases-down l = l.a
