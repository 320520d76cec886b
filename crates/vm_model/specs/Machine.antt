-- The machine: frames over a heap; what a step is, and the runs of steps.
use Rattle.std.specs.Prelude.{◌≡◌, ℕ, suc, List, [], ◌∷◌, ◌++◌, Option, Some, None}
use Rattle.mg_text.specs.declared.event.Event.{Event}
use Rattle.mg_text.specs.declared.event.Ending.{Ending}
use Rattle.vm_model.specs.declared.value.Value.{Value}
use Rattle.vm_model.specs.Messages.{Messages}

-- What runs of a method: its class and its number there, the number of its next instruction, its locals, of which some may be unset, and
-- its operands, the topmost last.
pub record Frame : Type 0 where
  pub class : ℕ
  pub method : ℕ
  pub place : ℕ
  pub locals : List (Option Value)
  pub operands : List Value
  -- the object whose protocol method this is, which tells when it is left
  pub told : Option ℕ

-- an object: its class, and what its fields hold
pub record Object : Type 0 where
  pub class : ℕ
  pub fields : List Value

-- the running frame, those that wait for it, the nearest first, and the objects by their numbers
pub record Machine : Type 0 where
  pub frame : Frame
  pub callers : List Frame
  pub heap : List Object

-- A step goes on with at most one event, waits for a message from a role, or ends the run.
pub data Stepped : Type 0 where
  Went : Machine → Messages → Option Event → Stepped
  Waits : (peer : ℕ) → Stepped
  Stops : Ending → Stepped

abbrev pub noted : Option Event → List Event
noted None = []
noted (Some event) = event ∷ []

-- So many counted steps, with these events, lead from a machine and its messages to others. A run that ends has counted one more.
pub data Steps (step : Machine → Messages → Stepped) : Machine → Messages → ℕ → List Event → Machine → Messages → Type 0 where
  none : {m : Machine} {q : Messages} → Steps step m q 0 [] m q
  more : {m m' n : Machine} {q q' r : Messages} {e : Option Event} {k : ℕ} {events : List Event} →
      step m q ≡ Went m' q' e → Steps step m' q' k events n r → Steps step m q (suc k) (noted e ++ events) n r
