-- By `grind` at once, since a search finds nothing here.
use Rattle.std.proofs.Common.{arith}
use Rattle.lsp_defined.proofs.Collecting.{peers}
use Rattle.lsp_defined.proofs.actions.first_peer.Goals as goal

pub returns-in-None : goal.returns-in-None
returns-in-None c = grind (arith, peers)

pub returns-in-None-first_message : goal.returns-in-None-first_message
returns-in-None-first_message c = grind (arith, peers)

pub returns-in-Some-first_message : goal.returns-in-Some-first_message
returns-in-Some-first_message c = grind (arith, peers)
