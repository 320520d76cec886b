-- By `grind` at once, since a search finds nothing here.
use Rattle.std.proofs.Common.{arith}
use Rattle.std.proofs.lemmas.Grind.{common_steps}
use Rattle.jv_types.proofs.switches.label_met.Goals as goal

pub loop-label-preserved : goal.loop-label-preserved
loop-label-preserved c = grind (arith, common_steps)

pub returns : goal.returns
returns c = grind (arith, common_steps)

pub returns-then-has_default : goal.returns-then-has_default
returns-then-has_default c = grind (arith, common_steps)

pub returns-then-not-fresh : goal.returns-then-not-fresh
returns-then-not-fresh c = grind (arith, common_steps)

pub returns-then-not-is_case_of : goal.returns-then-not-is_case_of
returns-then-not-is_case_of c = grind (arith, common_steps)
