use Rattle.insp_law.proofs.Calls.{right_is_path}
use Rattle.insp_law.proofs.laws.right_is_path.Goals as goal

pub returns : goal.returns
returns c = right_is_path
