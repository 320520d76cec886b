use Rattle.scr_project.proofs.Promises as promises
use Rattle.scr_project.proofs.laws.none_is_stuck.Goals as goal

pub returns-clause-taken : goal.returns-clause-taken
returns-clause-taken c = promises.messages_are_taken

pub returns-clause-complete : goal.returns-clause-complete
returns-clause-complete c = promises.none_is_stuck
