-- The operands lie above the locals.
use Rattle.std.proofs.Common.{arith}
use Rattle.vm_frames.proofs.States.{depth_is}
use Rattle.vm_frames.proofs.state.State.depth.Goals as goal

pub overflow_sub-result : goal.overflow_sub-result
overflow_sub-result c = omega (arith, c.depth.ensures.value, c.self.invariant.running.within)

pub returns-clause-value : goal.returns-clause-value
returns-clause-value c = omega (arith, c.depth.ensures.value, depth_is c.self.inside c.args.self.now c.self.view_is c.self.invariant)
