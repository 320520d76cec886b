use Rattle.vm_model.specs.View.{method_of}
use Rattle.vm_session.specs.State.{state_of}
use Rattle.vm_step.specs.Alone.{Runs, AllAlone}
use Rattle.vm_step.proofs.quiet.steps_alone.Given as goal

abbrev pub invariant-loop-taken : goal.invariant-loop-taken
invariant-loop-taken l =
    AllAlone l.linked (state_of l.fn.state) l.taken (state_of l.state) ×
    Runs l.linked (state_of l.state) (method_of l.method)
