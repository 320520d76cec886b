use Rattle.std.proofs.Common.{arith}
use Rattle.vm_session.specs.State.{state_of}
use Rattle.vm_step.proofs.Ready.{go_alone}
use Rattle.vm_step.proofs.frequent.jump.Goals as goal

pub returns : goal.returns
returns c = go_alone c.args.max (state_of c.args.state.now) (state_of c.go_to.new.self) c.args.target (omega arith) c.go_to.ensures.machine
