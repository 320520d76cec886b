use Rattle.std.proofs.Common.{◌≡◌, drop}
use Rattle.jv_types.specs.inner.Declaring.{all_in}
use Rattle.jv_types.proofs.demands.has_all.Given as goal

abbrev pub invariant-loop-item : goal.invariant-loop-item
invariant-loop-item l =
    all_in l.names (drop l.item-index l.texts) ≡ all_in l.names l.texts
