use Rattle.jv_sound.proofs.Budget as laws
use Rattle.jv_sound.proofs.budget_law.Goals as goal

pub returns : goal.returns
returns c = laws.budget_law
