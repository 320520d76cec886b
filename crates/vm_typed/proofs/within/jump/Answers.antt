use Rattle.vm_session.specs.State.{state_of}
use Rattle.vm_typed.proofs.Taken.{jumps}
use Rattle.vm_typed.proofs.within.jump.Goals as goal

pub returns : goal.returns
returns c =
    jumps c.args.linked.now (state_of c.args.state.now) (state_of c.go_to.new.self) c.args.target c.requires.next c.go_to.ensures.machine
