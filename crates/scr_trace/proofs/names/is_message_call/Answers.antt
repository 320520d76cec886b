-- By `grind` at once, since a search finds nothing here.
use Rattle.std.proofs.Common.{arith}
use Rattle.scr_trace.proofs.Pieces.{pieces}
use Rattle.scr_trace.proofs.names.is_message_call.Goals as goal

pub returns-in-From : goal.returns-in-From
returns-in-From c = grind (arith, pieces)

pub returns-in-To : goal.returns-in-To
returns-in-To c = grind (arith, pieces)
