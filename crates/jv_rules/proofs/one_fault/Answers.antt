use Rattle.jv_rules.proofs.Once.{one_fault as the_law}
use Rattle.jv_rules.proofs.one_fault.Goals as goal

pub returns : goal.returns
returns c = the_law
