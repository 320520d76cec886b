use Rattle.mg_runs.proofs.Protocols as protocols
use Rattle.mg_runs.proofs.laws.protocols_agree.Goals as goal

pub returns : goal.returns
returns c = protocols.protocols_agree
