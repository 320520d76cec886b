use Rattle.mg_runs.proofs.Roles.{roles_law}
use Rattle.mg_runs.proofs.laws.roles_are_meant.Goals as goal

pub returns : goal.returns
returns c = roles_law c.runs_are_meant.ensures c.begun_is_fresh.ensures c.turns_deliver.ensures c.worlds_are_meant.ensures
