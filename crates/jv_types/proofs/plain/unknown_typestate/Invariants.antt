use Rattle.std.proofs.Common.{◌≡◌, drop}
use Rattle.jv_types.specs.inner.Declaring.{unknown_typestate}
use Rattle.jv_types.specs.inner.Kept.{typestate_in}
use Rattle.jv_types.specs.inner.Tabled.{class_in}
use Rattle.jv_rules.specs.inner.Deciding.{first_by}
use Rattle.jv_types.proofs.plain.unknown_typestate.Given as goal

abbrev pub invariant-loop-item : goal.invariant-loop-item
invariant-loop-item l =
    first_by (λ e. unknown_typestate (typestate_in e) (class_in e)) (drop l.item-index l.entries) ≡ first_by
    (λ e. unknown_typestate (typestate_in e) (class_in e)) l.entries
