-- What calls and returns do, by the object that stands under the arguments.
use Rattle.std.specs.Prelude.{◌≡◌, ℕ, ◌+◌, ◌≤◌, length, [], ◌∷◌, Bool, true, false, List, Option, Some, None}
use Rattle.mg_text.specs.declared.event.BadKind.TheVariants as bad
use Rattle.mg_text.specs.declared.event.Ending.TheVariants as endings
use Rattle.mg_text.specs.declared.event.Event.TheVariants as seen
use Rattle.vm_model.specs.declared.value.Value.{Value}
use Rattle.vm_model.specs.declared.value.Value.TheVariants as values
use Rattle.vm_model.specs.Program.{Program, MethodOf, method_at}
use Rattle.vm_model.specs.Messages.{Messages}
use Rattle.vm_model.specs.Machine.{Machine, Frame, Stepped, Stops}
use Rattle.vm_model.specs.Actions.{Calling, Static}
use Rattle.vm_model.specs.Tests.{method_of_frame, name_of_method}
use Rattle.vm_model.specs.Step.{broken, calls_in}

-- the call of a method that tells of it, or that doesn't
abbrev pub calls_by : Program → Messages → Machine → (tells : Bool) → ℕ → ℕ → List Value → List Value → Option Value → Stepped
calls_by p q m tells class method rest args None = broken bad.Underflow
calls_by p q m tells class method rest args (Some values.Null) = Stops endings.Null
calls_by p q m true class method rest args (Some (values.Object n)) =
    calls_in p q m class method rest args (Some n) (Some (seen.Enter n (name_of_method (method_at p class method))))
calls_by p q m false class method rest args (Some (values.Object n)) = calls_in p q m class method rest args None None
calls_by p q m tells class method rest args (Some _) = broken bad.Member

-- a call on an object has one
abbrev pub IsReceived : Calling → ℕ → Type 0
IsReceived Static count = Unit {0}
IsReceived _ count = 1 ≤ count

-- the nearest of the frames that wait runs this method, and may have so many operands more
abbrev pub Awaits : Program → ℕ → MethodOf → List Frame → Type 0
Awaits p given method [] = ⊥
Awaits p given method (f ∷ fs) = (Some method ≡ method_of_frame p f) × (length f.operands + given ≤ method.max_stack)
