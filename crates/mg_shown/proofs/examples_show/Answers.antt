use Rattle.mg_shown.proofs.Worked.{examples}
use Rattle.mg_shown.proofs.examples_show.Goals as goal

pub returns : goal.returns
returns c = examples
