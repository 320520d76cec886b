use Rattle.std.proofs.Common.{◌≡◌, ◌++◌, drop, map}
use Rattle.jv_tree.specs.View.{group_of, groups_of}
use Rattle.jv_rules.specs.Conditions.{cases}
use Rattle.jv_types.proofs.switches.labels_of.Given as goal

abbrev pub invariant-loop-group : goal.invariant-loop-group
invariant-loop-group l = map (λ d. d.now) l.all.items ++ cases (groups_of (map group_of (drop l.group-index l.groups))) ≡ cases
    (groups_of (map group_of l.groups))
