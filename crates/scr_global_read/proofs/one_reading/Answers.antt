use Rattle.scr_global_read.proofs.Unique.{one_outcome, one_file}
use Rattle.scr_global_read.proofs.one_reading.Goals as goal

pub returns-clause-one_outcome : goal.returns-clause-one_outcome
returns-clause-one_outcome c = one_outcome

pub returns-clause-one_file : goal.returns-clause-one_file
returns-clause-one_file c = one_file
