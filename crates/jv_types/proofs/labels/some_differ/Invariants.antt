use Rattle.std.proofs.Common.{◌≡◌, drop}
use Rattle.std.specs.List.{list_any}
use Rattle.jv_types.specs.Tables.{program_in}
use Rattle.jv_types.specs.inner.Offering.{offers_seen, labels_differ}
use Rattle.jv_types.proofs.labels.some_differ.Given as goal

abbrev pub invariant-loop-offer : goal.invariant-loop-offer
invariant-loop-offer l =
    list_any (labels_differ (program_in l.table)) (offers_seen (drop l.offer-index l.offers)) ≡ list_any
    (labels_differ (program_in l.table)) (offers_seen l.offers)
