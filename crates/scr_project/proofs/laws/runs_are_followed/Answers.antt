use Rattle.scr_project.proofs.Promises as promises
use Rattle.scr_project.proofs.laws.runs_are_followed.Goals as goal

pub returns-clause-runs : goal.returns-clause-runs
returns-clause-runs c = promises.runs_are_followed

pub returns-clause-complete : goal.returns-clause-complete
returns-clause-complete c = promises.complete_runs_are_followed
