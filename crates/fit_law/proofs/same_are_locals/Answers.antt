use Rattle.fit_law.proofs.Sameness as law
use Rattle.fit_law.proofs.same_are_locals.Goals as goal

pub returns : goal.returns
returns c = law.same_are_locals
