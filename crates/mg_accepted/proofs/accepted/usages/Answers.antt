use Rattle.mg_accepted.proofs.Usages.{unmet_judged}
use Rattle.mg_accepted.proofs.accepted.usages.Goals as goal

pub returns-in-Ok : goal.returns-in-Ok
returns-in-Ok c = c.in-Ok.ensures.accepted

pub returns-in-Err : goal.returns-in-Err
returns-in-Err c = unmet_judged c.args.core.now c.in-Err.fault c.stop_of-stop.result c.in-Err.ensures.fault c.stop_of-stop.ensures
