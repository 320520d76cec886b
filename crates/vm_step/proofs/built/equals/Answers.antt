use Rattle.std.proofs.Common.{length}
use Rattle.vm_step.proofs.built.equals.Goals as goal

pub put-requires-clause-set : goal.put-requires-clause-set
put-requires-clause-set c = c.truth-same.ensures.set (length c.args.state.now.texts)
