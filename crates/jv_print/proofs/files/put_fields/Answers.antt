-- By `grind` at once, since a search finds nothing here.
use Rattle.std.proofs.Common.{arith}
use Rattle.jv_print.proofs.Laid.{field_steps}
use Rattle.jv_print.proofs.files.put_fields.Goals as goal

pub returns : goal.returns
returns c = grind (arith, field_steps)
