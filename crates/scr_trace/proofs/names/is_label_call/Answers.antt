-- By `grind` at once, since a search finds nothing here.
use Rattle.std.proofs.Common.{arith}
use Rattle.scr_trace.proofs.Pieces.{pieces}
use Rattle.scr_trace.proofs.names.is_label_call.Goals as goal

pub returns : goal.returns
returns c = grind (arith, pieces)
