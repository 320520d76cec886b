-- By `grind` at once, since a search finds nothing here.
use Rattle.std.proofs.Common.{arith}
use Rattle.std.proofs.lemmas.Grind.{common_steps}
use Rattle.ts_parse.proofs.scan.put.Goals as goal

pub returns-in_ok-push-in-Some : goal.returns-in_ok-push-in-Some
returns-in_ok-push-in-Some c = grind (arith, common_steps)

pub returns-in_ok-push-in-Word : goal.returns-in_ok-push-in-Word
returns-in_ok-push-in-Word c = grind (arith, common_steps)
