use Rattle.use_verdict.proofs.First.{one_fault as the_law}
use Rattle.use_verdict.proofs.one_fault.Goals as goal

pub returns : goal.returns
returns c = the_law
