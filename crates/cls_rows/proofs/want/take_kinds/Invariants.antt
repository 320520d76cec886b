use Rattle.std.proofs.Common.{◌<◌, ◌≤◌, length, map}
use Rattle.cls_kinds.specs.Stacks.{stack_at}
use Rattle.cls_rows.specs.declared.want.Want.TheVariants as wants
use Rattle.cls_rows.proofs.Taking.{Takes}
use Rattle.cls_rows.proofs.want.take_kinds.Given as goal

abbrev pub invariant-down : goal.invariant-down
invariant-down l = record {
  there : l.below < length l.stacks;
  least : l.left ≤ length l.wants;
  went : Takes (map wants.Of l.wants) l.left (stack_at l.stacks l.operands) (stack_at l.stacks l.below);
}

abbrev pub decreases-down : goal.decreases-down
decreases-down l = l.left
