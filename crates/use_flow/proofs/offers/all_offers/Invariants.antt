use Rattle.use_flow.proofs.Offering.{OfferedSoFar}
use Rattle.use_flow.proofs.offers.all_offers.Given as goal

abbrev pub invariant-loop-typestate : goal.invariant-loop-typestate
invariant-loop-typestate l = OfferedSoFar l.typestate-items l.all.items l.typestate-index
