use Rattle.mg_runs.proofs.Fitting as fitting
use Rattle.mg_runs.proofs.laws.roles_fit.Goals as goal

pub returns : goal.returns
returns c = fitting.roles_fit c.roles_that_fit.ensures
