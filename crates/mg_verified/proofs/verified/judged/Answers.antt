use Rattle.mg_verified.proofs.Tried.{fault_tried}
use Rattle.mg_verified.proofs.verified.judged.Goals as goal

pub returns-in-Err : goal.returns-in-Err
returns-in-Err c = fault_tried c.args.linked.now c.in-Err.fault c.stop_of.result c.in-Err.ensures.err
    c.stop_of.ensures
