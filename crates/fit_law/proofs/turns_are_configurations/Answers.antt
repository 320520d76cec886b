use Rattle.fit_law.proofs.Fit as fit
use Rattle.fit_law.proofs.turns_are_configurations.Goals as goal

pub returns-clause-turns : goal.returns-clause-turns
returns-clause-turns c = fit.turns_are_configurations

pub returns-clause-rest : goal.returns-clause-rest
returns-clause-rest c = fit.rest_is_finished
