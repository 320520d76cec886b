-- By `grind` at once, since a search finds nothing here.
use Rattle.std.proofs.Common.{arith}
use Rattle.scr_trace.proofs.Offering.{looks_once}
use Rattle.scr_trace.proofs.offers.label_offers.Goals as goal

pub returns-clause-calls : goal.returns-clause-calls
returns-clause-calls c = grind (arith, looks_once)
