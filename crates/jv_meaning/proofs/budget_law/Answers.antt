use Rattle.jv_meaning.proofs.Budget as laws
use Rattle.jv_meaning.proofs.budget_law.Goals as goal

pub returns : goal.returns
returns c = laws.budget_law
