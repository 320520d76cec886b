use Rattle.jv_types.specs.inner.Blaming.{blamed_of}
use Rattle.jv_types.proofs.Offering.{none_found}
use Rattle.jv_types.proofs.declarations.demands_fault.Goals as goal

pub labels_differ-requires-clause-alike : goal.labels_differ-requires-clause-alike
labels_differ-requires-clause-alike c = none_found blamed_of c.in_ok-found.found c.is_some-2.result _ c.in_ok-found.ensures
    c.is_some-2.ensures c.if-is_some-2.false
