use Rattle.std.proofs.Common.{◌≡◌, ◌++◌, drop, map}
use Rattle.jv_types.specs.inner.Blaming.{noted}
use Rattle.jv_types.specs.inner.Offering.{offers_seen, firsts_among}
use Rattle.jv_types.proofs.protocols.first_offers.Given as goal

abbrev pub invariant-loop-offer : goal.invariant-loop-offer
invariant-loop-offer l = record {
  names : noted l.names (map (λ m. m.name) (offers_seen (drop l.offer-index l.offers))) ≡ noted l.initial.names
      (map (λ m. m.name) (offers_seen l.offers));
  firsts : offers_seen l.firsts.items ++ firsts_among l.names (offers_seen (drop l.offer-index l.offers)) ≡ firsts_among l.initial.names
      (offers_seen l.offers);
}
