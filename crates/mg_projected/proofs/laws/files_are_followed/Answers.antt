use Rattle.scr_project.proofs.Promises.{messages_are_taken, none_is_stuck}
use Rattle.mg_projected.proofs.Followed.{files_projected}
use Rattle.mg_projected.proofs.laws.files_are_followed.Goals as goal

pub returns-clause-projected : goal.returns-clause-projected
returns-clause-projected c = files_projected

pub returns-clause-taken : goal.returns-clause-taken
returns-clause-taken c = λ g files is. messages_are_taken g is.locals is.projected

pub returns-clause-complete : goal.returns-clause-complete
returns-clause-complete c = λ g files is. none_is_stuck g is.locals is.projected
