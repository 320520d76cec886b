use Rattle.std.proofs.Common.{◌≡◌, drop, map}
use Rattle.jv_tree.specs.View.{group_of, groups_of}
use Rattle.jv_rules.specs.inner.Leaving.{has_default}
use Rattle.jv_types.proofs.completes.has_default.Given as goal

abbrev pub invariant-loop-group : goal.invariant-loop-group
invariant-loop-group l = has_default (groups_of (map group_of (drop l.group-index l.groups))) ≡ has_default
    (groups_of (map group_of l.groups))
