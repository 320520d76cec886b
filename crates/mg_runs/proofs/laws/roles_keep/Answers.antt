use Rattle.mg_runs.proofs.Keeping as keeping
use Rattle.mg_runs.proofs.laws.roles_keep.Goals as goal

pub returns : goal.returns
returns c = keeping.roles_keep c.accepted_keep_typestates.ensures
