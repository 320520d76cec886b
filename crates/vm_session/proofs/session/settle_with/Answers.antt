use Rattle.std.proofs.Common.{length}
use Rattle.vm_session.proofs.session.settle_with.Goals as goal

pub put-requires-in-Truth-clause-set : goal.put-requires-in-Truth-clause-set
put-requires-in-Truth-clause-set c = c.truth.ensures.set (length c.args.state.now.texts)
