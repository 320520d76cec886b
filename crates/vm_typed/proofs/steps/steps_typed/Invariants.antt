use Rattle.vm_session.specs.State.{state_of}
use Rattle.cls_verify.specs.Sound.{Sound}
use Rattle.vm_typed.specs.Alone.{AllAlone}
use Rattle.vm_typed.specs.Running.{RunsFlat}
use Rattle.vm_typed.proofs.steps.steps_typed.Given as goal

abbrev pub invariant-loop-taken : goal.invariant-loop-taken
invariant-loop-taken l = record {
  steps : AllAlone l.linked (state_of l.fn.state) l.taken (state_of l.state);
  sound : Sound l.linked (state_of l.state);
  runs : RunsFlat l.linked (state_of l.state) l.code;
}
