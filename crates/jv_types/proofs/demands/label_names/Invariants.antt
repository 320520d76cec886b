use Rattle.std.proofs.Common.{◌≡◌, [], drop, map}
use Rattle.jv_types.specs.inner.Blaming.{noted}
use Rattle.jv_types.proofs.demands.label_names.Given as goal

abbrev pub invariant-loop-item : goal.invariant-loop-item
invariant-loop-item l =
    noted l.met (map (λ b. b.label) (drop l.item-index l.branches)) ≡ noted [] (map (λ b. b.label) l.branches)
