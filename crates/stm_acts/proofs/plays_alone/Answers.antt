use Rattle.stm_acts.proofs.InCalls as laws
use Rattle.stm_acts.proofs.plays_alone.Goals as goal

pub returns : goal.returns
returns c = laws.plays_alone
