use Rattle.scr_project.proofs.Promises.{runs_are_followed, complete_runs_are_followed}
use Rattle.mg_projected.proofs.laws.runs_are_followed.Goals as goal

pub returns-clause-runs : goal.returns-clause-runs
returns-clause-runs c = λ g files is. runs_are_followed g is.locals is.projected

pub returns-clause-complete : goal.returns-clause-complete
returns-clause-complete c = λ g files is. complete_runs_are_followed g is.locals is.projected
