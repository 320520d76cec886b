use Rattle.insp_law.proofs.Examples.{example}
use Rattle.insp_law.proofs.laws.one_is_inspected.Goals as goal

pub returns : goal.returns
returns c = example
