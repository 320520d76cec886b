use Rattle.fit_law.proofs.Fit as fit
use Rattle.fit_law.proofs.rest_is_conversation.Goals as goal

pub returns-clause-rest : goal.returns-clause-rest
returns-clause-rest c = fit.rest_is_conversation

pub returns-clause-turns : goal.returns-clause-turns
returns-clause-turns c = fit.turns_are_in_conversation

pub returns-clause-on : goal.returns-clause-on
returns-clause-on c = fit.turns_go_on_in_conversation
