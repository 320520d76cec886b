-- By `grind` at once, since a search finds nothing here.
use Rattle.std.proofs.Common.{arith}
use Rattle.jv_print.proofs.Laid.{case_steps}
use Rattle.jv_print.proofs.stmts.put_case_lines.Goals as goal

pub loop-label-preserved : goal.loop-label-preserved
loop-label-preserved c = grind (arith, case_steps)

pub returns : goal.returns
returns c = grind (arith, case_steps)
