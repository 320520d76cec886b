-- By `grind` at once, since a search finds nothing here.
use Rattle.std.proofs.Common.{arith}
use Rattle.std.proofs.lemmas.Grind.{common_steps}
use Rattle.jv_types.proofs.labels.some_differ.Goals as goal

pub loop-offer-preserved : goal.loop-offer-preserved
loop-offer-preserved c = grind (arith, common_steps)

pub returns : goal.returns
returns c = grind (arith, common_steps)

pub returns-then-branch : goal.returns-then-branch
returns-then-branch c = grind (arith, common_steps)
