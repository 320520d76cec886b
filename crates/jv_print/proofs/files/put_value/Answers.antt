-- By `grind` at once, since a search finds nothing here.
use Rattle.std.proofs.Common.{arith}
use Rattle.jv_print.proofs.Laid.{laid}
use Rattle.jv_print.proofs.files.put_value.Goals as goal

pub returns : goal.returns
returns c = grind (arith, laid)
