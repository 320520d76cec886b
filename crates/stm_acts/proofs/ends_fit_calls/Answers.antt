use Rattle.stm_acts.proofs.InCalls as laws
use Rattle.stm_acts.proofs.ends_fit_calls.Goals as goal

pub returns : goal.returns
returns c = laws.ends_fit_calls
