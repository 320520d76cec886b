use Rattle.std.proofs.Common.{arith}
use Rattle.use_flow.proofs.Asking.{run_next}
use Rattle.use_flow.proofs.read.add_run.Goals as goal

pub loop-context-preserved : goal.loop-context-preserved
loop-context-preserved c =
    run_next c.args.class c.loop-context.context c.args.to c.loop-context.entries.items c.add.new.entries.items _ (omega arith)
    c.in_ok-add.ensures c.loop-context.invariant
