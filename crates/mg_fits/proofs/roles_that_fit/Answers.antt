use Rattle.mg_fits.proofs.Fitting as laws
use Rattle.mg_fits.proofs.roles_that_fit.Goals as goal

pub returns : goal.returns
returns c = laws.roles_that_fit c.spelled_is_shaped.ensures c.accepted_keep_typestates.ensures
