use Rattle.insp_law.proofs.Safe.{runs_are_safe}
use Rattle.insp_law.proofs.laws.runs_are_safe.Goals as goal

pub returns : goal.returns
returns c = runs_are_safe
