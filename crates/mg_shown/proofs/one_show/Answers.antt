use Rattle.use_flow.proofs.Reached.{reached_same}
use Rattle.mg_shown.proofs.Single.{one_shown}
use Rattle.mg_shown.proofs.one_show.Goals as goal

pub returns : goal.returns
returns c = one_shown reached_same
