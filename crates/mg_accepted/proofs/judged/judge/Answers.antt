use Rattle.jv_types.specs.Tables.{program_in}
use Rattle.mg_accepted.proofs.Refused.{method_refused}
use Rattle.mg_accepted.proofs.judged.judge.Goals as goal

pub returns-in-Ok : goal.returns-in-Ok
returns-in-Ok c = c.in-Ok.ensures.fine

pub returns-in-Err : goal.returns-in-Err
returns-in-Err c = method_refused c.in-Err.fault c.stop_of.result c.stop_of.ensures (program_in c.args.table.now) c.in-Err.ensures.fault
