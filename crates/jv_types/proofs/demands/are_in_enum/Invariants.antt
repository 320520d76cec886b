use Rattle.std.proofs.Common.{◌≡◌, drop, map}
use Rattle.jv_types.specs.inner.Declaring.{all_in}
use Rattle.jv_types.specs.inner.Tabled.{enum_in}
use Rattle.jv_types.proofs.demands.are_in_enum.Given as goal

abbrev pub invariant-loop-item : goal.invariant-loop-item
invariant-loop-item l =
    all_in (enum_in l.entry).constants (map (λ b. b.label) (drop l.item-index l.branches)) ≡ all_in (enum_in l.entry).constants
    (map (λ b. b.label) l.branches)
