use Rattle.scr_faithful.proofs.Examples.{adder_can_end, none_is_forgotten}
use Rattle.scr_faithful.proofs.premises_are_met.Goals as goal

pub returns-clause-ends : goal.returns-clause-ends
returns-clause-ends c = adder_can_end

pub returns-clause-heard : goal.returns-clause-heard
returns-clause-heard c = none_is_forgotten
