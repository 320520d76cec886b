-- By `grind` at once, since a search finds nothing here.
use Rattle.std.proofs.Common.{arith}
use Rattle.std.proofs.lemmas.Grind.{common_steps}
use Rattle.scr_parse.proofs.carries.add_carried.Goals as goal

pub returns-in_ok-push-in-Name : goal.returns-in_ok-push-in-Name
returns-in_ok-push-in-Name c = grind (arith, common_steps)
