use Rattle.mg_faults.proofs.Lines.{faults_are_lines}
use Rattle.mg_faults.proofs.Order.{one_faults}
use Rattle.mg_faults.proofs.each_is_told.Goals as goal

pub returns : goal.returns
returns c = record { lines = faults_are_lines; one = one_faults }
