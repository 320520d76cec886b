use Rattle.stm_acts.proofs.InCalls as laws
use Rattle.stm_acts.proofs.deeds_are_in_calls.Goals as goal

pub returns : goal.returns
returns c = laws.deeds_are_in_calls
