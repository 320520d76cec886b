use Rattle.std.proofs.Common.{◌≡◌, length, map}
use Rattle.jv_core.specs.View.{group_of, groups_of}
use Rattle.jv_core.specs.Numbering.{numbers_from}
use Rattle.gen_symbolic.specs.inner.Drafting.{target_by}
use Rattle.gen_symbolic.proofs.switches.targets.Given as goal

abbrev pub invariant-loop-position : goal.invariant-loop-position
invariant-loop-position l =
    l.targets.items ≡ map (target_by (groups_of (map group_of l.groups)) (numbers_from l.first (length l.groups)) l.default)
    (numbers_from 0 l.position)
