-- By `grind` at once, since a search finds nothing here.
use Rattle.std.proofs.Common.{arith}
use Rattle.stm_api.proofs.Collecting.{firsts}
use Rattle.stm_api.proofs.doings.first_peer.Goals as goal

pub returns-in-None : goal.returns-in-None
returns-in-None c = grind (arith, firsts)

pub returns-in-None-first_message : goal.returns-in-None-first_message
returns-in-None-first_message c = grind (arith, firsts)

pub returns-in-Some-first_message : goal.returns-in-Some-first_message
returns-in-Some-first_message c = grind (arith, firsts)
