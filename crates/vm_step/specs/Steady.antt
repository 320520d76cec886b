-- Instructions that need no memory.
use Rattle.std.specs.Prelude.{Bool, true, false, Option, Some, None, slice_get, option_and_then}
use Rattle.vm_model.specs.declared.value.Value.TheVariants as values
use Rattle.vm_model.specs.Program.{Program}
use Rattle.vm_model.specs.Machine.{Machine}
use Rattle.vm_model.specs.Actions.{Action, Push, Make, Call, Use, action}
use Rattle.vm_model.specs.Tests.{method_of_frame}
use Rattle.vm_model.specs.Step.{code_in}

-- the next action of the method that runs
abbrev pub next_action : Program → Machine → Option Action
next_action p m = option_and_then (λ i. action i.op i.args) (slice_get (code_in (method_of_frame p m.frame)) m.frame.place)

-- All but texts of the code, objects that are made, calls and members of built-in classes; what is no instruction needs none either.
abbrev pub is_steady_action : Action → Bool
is_steady_action (Push (values.Text text)) = false
is_steady_action (Make class) = false
is_steady_action (Call _ _ _) = false
is_steady_action (Use member) = false
is_steady_action _ = true

abbrev pub is_steady : Option Action → Bool
is_steady None = true
is_steady (Some a) = is_steady_action a
