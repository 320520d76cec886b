use Rattle.mg_runs.proofs.Playing as playing
use Rattle.mg_runs.proofs.laws.roles_play.Goals as goal

pub returns : goal.returns
returns c = playing.roles_play c.accepted_objects_play.ensures
