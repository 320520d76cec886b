use Rattle.fit_law.proofs.Play as play
use Rattle.fit_law.proofs.turns_converse.Goals as goal

pub returns-clause-end : goal.returns-clause-end
returns-clause-end c = play.turns_converse

pub returns-clause-on : goal.returns-clause-on
returns-clause-on c = play.turns_go_on

pub returns-clause-reached : goal.returns-clause-reached
returns-clause-reached c = play.turns_are_reached

pub returns-clause-one : goal.returns-clause-one
returns-clause-one c = play.turns_act_by_one
