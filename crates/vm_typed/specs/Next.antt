-- What is known of the next action of a machine that fits the typings of its program.
use Rattle.std.specs.Prelude.{◌≡◌, Some, slice_get}
use Rattle.vm_model.specs.Program.{Program, Instr}
use Rattle.vm_model.specs.Machine.{Machine}
use Rattle.vm_model.specs.Actions.{Action, action}
use Rattle.vm_model.specs.Tests.{method_of_frame}
use Rattle.vm_model.specs.Step.{code_in}
use Rattle.cls_verify.specs.Typing.{AllTypable}
use Rattle.cls_verify.specs.Sound.{Sound}

-- This action is next, in a machine that fits the typings of its program, whose methods are all typable.
pub record IsNext (p : Program) (m : Machine) (a : Action) : Type 0 where
  pub typable : AllTypable p
  pub sound : Sound p m
  pub instr : Instr
  pub there : slice_get (code_in (method_of_frame p m.frame)) m.frame.place ≡ Some instr
  pub acts : action instr.op instr.args ≡ Some a
