-- By `grind` at once, since a search finds nothing here.
use Rattle.std.proofs.Common.{arith}
use Rattle.std.proofs.lemmas.Grind.{common_steps}
use Rattle.jv_types.proofs.repeats.constant_met.Goals as goal

pub loop-constant-preserved : goal.loop-constant-preserved
loop-constant-preserved c = grind (arith, common_steps)

pub returns : goal.returns
returns c = grind (arith, common_steps)

pub returns-then-not-fresh : goal.returns-then-not-fresh
returns-then-not-fresh c = grind (arith, common_steps)
