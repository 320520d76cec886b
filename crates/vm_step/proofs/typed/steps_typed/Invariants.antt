use Rattle.std.proofs.Common.{◌≤◌, ◌-◌}
use Rattle.vm_session.specs.State.{state_of}
use Rattle.cls_verify.specs.Sound.{Sound}
use Rattle.vm_step.specs.Alone.{AllAlone}
use Rattle.vm_step.proofs.typed.steps_typed.Given as goal

abbrev pub invariant-loop-taken : goal.invariant-loop-taken
invariant-loop-taken l = record {
  most : l.taken ≤ l.most;
  steps : AllAlone l.linked (state_of l.fn.state) l.taken (state_of l.state);
  sound : Sound l.linked (state_of l.state);
}

abbrev pub decreases-loop-taken : goal.decreases-loop-taken
decreases-loop-taken l = l.most - l.taken
