use Rattle.mg_trace.proofs.Worked.{worked}
use Rattle.mg_trace.proofs.runs_are_told.Goals as goal

pub returns : goal.returns
returns c = worked
