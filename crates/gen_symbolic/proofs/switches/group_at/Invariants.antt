use Rattle.std.proofs.Common.{◌≡◌, ◌-◌, drop, map, length}
use Rattle.jv_core.specs.View.{group_of, groups_of}
use Rattle.jv_core.specs.Numbering.{numbers_from}
use Rattle.gen_rules.specs.Cases.{group_at}
use Rattle.gen_symbolic.specs.inner.Drafting.{wanted}
use Rattle.gen_symbolic.proofs.switches.group_at.Given as goal

abbrev pub invariant-loop-group : goal.invariant-loop-group
invariant-loop-group l =
    group_at (wanted l.position) (groups_of (map group_of (drop l.group-index l.groups)))
    (numbers_from l.label (length l.groups - l.group-index))
    ≡ group_at (wanted l.position) (groups_of (map group_of l.groups)) (numbers_from l.first (length l.groups))
