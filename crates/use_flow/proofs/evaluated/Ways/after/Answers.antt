use Rattle.std.proofs.Common.{arith}
use Rattle.use_rules.proofs.Meeting.{meeting}
use Rattle.use_flow.proofs.evaluated.Ways.after.Goals as goal

pub returns-in-Alike : goal.returns-in-Alike
returns-in-Alike c = grind (arith, meeting)
