use Rattle.std.proofs.Common.{◌≡◌, [], drop, map}
use Rattle.jv_types.specs.Tables.{program_in}
use Rattle.jv_types.specs.inner.Offering.{mislabelled}
use Rattle.jv_types.proofs.labels.mislabelled.Given as goal

abbrev pub invariant-loop-protocol : goal.invariant-loop-protocol
invariant-loop-protocol l =
    mislabelled (program_in l.table) l.met (map (λ p. p.of.now) (drop l.protocol-index l.protocol-items))
    ≡ mislabelled (program_in l.table) [] (program_in l.table).typestates
