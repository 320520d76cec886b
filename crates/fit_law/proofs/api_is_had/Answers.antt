use Rattle.fit_law.proofs.Had as had
use Rattle.fit_law.proofs.api_is_had.Goals as goal

pub returns : goal.returns
returns c = had.api_is_had
