-- Steps that are taken alone: they look at no message, send none and tell nothing.
use Rattle.std.specs.Prelude.{◌≡◌, ℕ, zero, suc, Bool, true, false, Option, Some, None, if◌then◌else◌}
use Rattle.vm_model.specs.Program.{Program, MethodOf}
use Rattle.vm_model.specs.Messages.{Messages}
use Rattle.vm_model.specs.Machine.{Machine, Went}
use Rattle.vm_model.specs.Actions.{Action}
use Rattle.vm_model.specs.Tests.{method_of_frame, max_stack_in}
use Rattle.vm_model.specs.Step.{act, step}

-- the same method runs
abbrev pub SameMethod : (m m' : Machine) → Type 0
SameMethod m m' = (m'.frame.class ≡ m.frame.class) × (m'.frame.method ≡ m.frame.method)

-- an action of a program leads from one machine to another and tells nothing
abbrev pub Quiet : Program → Action → (m m' : Machine) → Type 0
Quiet p a m m' = (me : ℕ) (q : Messages) → act p q m me a ≡ Went m' q None

-- Where the running frame may have so many operands, the action leads from one machine to another in the same method,
-- or nothing has changed.
abbrev pub Alone : (max : ℕ) → Action → (m m' : Machine) → Bool → Type 0
Alone max a m m' true = SameMethod m m' × ((p : Program) → max_stack_in (method_of_frame p m.frame) ≡ max → Quiet p a m m')
Alone max a m m' false = m' ≡ m

-- The action of a program leads from one machine to another in the same method and tells nothing, or nothing has changed.
abbrev pub Stays : Program → Action → (m m' : Machine) → Bool → Type 0
Stays p a m m' true = SameMethod m m' × Quiet p a m m'
Stays p a m m' false = m' ≡ m

-- this is the method that runs
abbrev pub Runs : Program → Machine → MethodOf → Type 0
Runs p m method = Some method ≡ method_of_frame p m.frame

-- The action leads from one machine to another, in which this method runs, and tells nothing; or nothing has changed.
abbrev pub Leads : Program → Action → (m m' : Machine) → Option MethodOf → Type 0
Leads p a m m' (Some method) = Quiet p a m m' × Runs p m' method
Leads p a m m' None = m' ≡ m

-- a step that is taken alone
abbrev pub StepAlone : Program → (m m' : Machine) → Type 0
StepAlone p m m' = (me : ℕ) (q : Messages) → step p me m q ≡ Went m' q None

-- It leads to another machine, in which this method runs; or nothing has changed.
abbrev pub LeadsAlone : Program → (m m' : Machine) → Option MethodOf → Type 0
LeadsAlone p m m' (Some method) = StepAlone p m m' × Runs p m' method
LeadsAlone p m m' None = m' ≡ m

-- What was tried leads alone to another machine in the same method, or nothing has changed; or it wasn't looked for.
abbrev pub Tried : Program → (m m' : Machine) → MethodOf → Option Bool → Type 0
Tried p m m' method (Some b) = LeadsAlone p m m' (if b then Some method else None)
Tried p m m' method None = m' ≡ m

-- Whatever program the method runs in, its next instruction leads alone to another machine in it, or nothing has changed.
abbrev pub Keeps : (m m' : Machine) → MethodOf → Bool → Type 0
Keeps m m' method b = (p : Program) → Runs p m method → LeadsAlone p m m' (if b then Some method else None)

-- so many of them, one after another
abbrev pub AllAlone : Program → Machine → ℕ → Machine → Type 0
AllAlone p m zero m' = m' ≡ m
AllAlone p m (suc k) m' = (n : Machine) × (AllAlone p m k n × StepAlone p n m')

-- The next step of a program is taken alone and stays in its method, or nothing has changed.
abbrev pub StepsWithin : Program → (m m' : Machine) → Bool → Type 0
StepsWithin p m m' true = SameMethod m m' × StepAlone p m m'
StepsWithin p m m' false = m' ≡ m
