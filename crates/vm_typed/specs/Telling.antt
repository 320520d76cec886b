-- Steps of which an object tells.
use Rattle.std.specs.Prelude.{◌≡◌, ℕ, List, [], ◌∷◌, Option, Some, None, IsSome}
use Rattle.mg_text.specs.declared.event.Event.{Event}
use Rattle.mg_text.specs.declared.event.Event.TheVariants as seen
use Rattle.vm_model.specs.declared.value.Value.{Value}
use Rattle.vm_model.specs.Program.{Program, method_at}
use Rattle.vm_model.specs.Messages.{Messages}
use Rattle.vm_model.specs.Machine.{Machine, Went}
use Rattle.vm_model.specs.Tests.{name_of_method}
use Rattle.vm_model.specs.Step.{step, returns}
use Rattle.vm_typed.specs.declared.telling.Telling.{Telling}
use Rattle.vm_typed.specs.declared.telling.Telling.TheVariants as tellings

-- the event that is told
abbrev pub event_told : Program → Telling → Event
event_told p (tellings.Enter object class method) = seen.Enter object (name_of_method (method_at p class method))
event_told p (tellings.Leave object answer) = seen.Leave object answer

-- the method that is told of is there
abbrev pub IsThere : Program → Telling → Type 0
IsThere p (tellings.Enter object class method) = IsSome (method_at p class method)
IsThere p (tellings.Leave object answer) = Unit {0}

-- the next step leads to another machine, whatever the messages are, and tells this
pub record Tells (p : Program) (m m' : Machine) (telling : Telling) : Type 0 where
  pub there : IsThere p telling
  pub steps : (me : ℕ) (q : Messages) → step p me m q ≡ Went m' q (Some (event_told p telling))

-- The next step leads to another machine and tells this; or nothing has changed.
abbrev pub StepTells : Program → (m m' : Machine) → Option Telling → Type 0
StepTells p m m' (Some telling) = Tells p m m' telling
StepTells p m m' None = m' ≡ m

-- The frame is left with these values, of which this is told; or nothing has changed.
abbrev pub LeavesTelling : Program → Machine → List Value → Machine → Option Telling → Type 0
LeavesTelling p m vs m' (Some telling) =
    IsThere p telling × ((q : Messages) → returns q m vs m.callers ≡ Went m' q (Some (event_told p telling)))
LeavesTelling p m vs m' None = m' ≡ m
