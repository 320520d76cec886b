use Rattle.stm_acts.proofs.InCalls as laws
use Rattle.stm_acts.proofs.ends_are_in_calls.Goals as goal

pub returns : goal.returns
returns c = laws.ends_are_in_calls
