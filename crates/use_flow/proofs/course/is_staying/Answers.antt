use Rattle.std.proofs.Common.{arith}
use Rattle.use_flow.proofs.Coursing.{members}
use Rattle.use_flow.proofs.course.is_staying.Goals as goal

pub returns-then-slot-width : goal.returns-then-slot-width
returns-then-slot-width c = grind (arith, members)
