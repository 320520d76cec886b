use Rattle.mg_top.proofs.OneThing.{yields_once as the_law}
use Rattle.mg_top.proofs.one_yield.Goals as goal

pub returns : goal.returns
returns c = the_law c.refusals_are_alike.ensures
