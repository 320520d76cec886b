-- What a turn makes of its role and of the messages.
use Rattle.std.specs.Prelude.{◌≡◌, ℕ, suc, List, [], ◌∷◌, ◌++◌, Bool, true, false, Option, Some, None}
use Rattle.mg_text.specs.declared.event.Event.{Event}
use Rattle.vm_model.specs.Program.{Program}
use Rattle.vm_model.specs.Messages.{Messages}
use Rattle.vm_model.specs.Machine.{Machine, Stepped, Went, Waits, Stops}
use Rattle.vm_model.specs.Step.{step}
use Rattle.vm_world_law.specs.declared.role.Turned.{Turned}
use Rattle.vm_world_law.specs.declared.role.Turned.TheVariants as answers
use Rattle.vm_world_law.specs.declared.role.RoleEvent.{RoleEvent}
use Rattle.vm_world_law.specs.World.{State, Runs, Over, Role, of_role}

pub record Outcome : Type 0 where
  pub role : Role
  pub messages : Messages
  pub event : Option Event
  pub turned : Turned

abbrev pub outcome_of : (count : ℕ) → Machine → Messages → Stepped → Outcome
outcome_of count m q (Went n q' event) = record {
  role = record { state = Runs n; count = suc count };
  messages = q';
  event =
      event;
  turned = answers.Went;
}
outcome_of count m q (Waits peer) = record {
  role = record { state = Runs m; count = count };
  messages = q;
  event = None;
  turned =
      answers.Waits peer;
}
outcome_of count m q (Stops ending) =
    record { role = record { state = Over ending; count = suc count }; messages = q; event = None; turned = answers.Ended ending }

abbrev pub outcome_in : Program → (me count : ℕ) → Messages → State → Outcome
outcome_in p me count q (Runs m) = outcome_of count m q (step p me m q)
outcome_in p me count q (Over ending) =
    record { role = record { state = Over ending; count = count }; messages = q; event = None; turned = answers.Ended ending }

abbrev pub outcome : Program → (me : ℕ) → Role → Messages → Outcome
outcome p me role q = outcome_in p me role.count q role.state

-- Whether a turn of a role counted an instruction: none of one that had ended, and none that waits.
abbrev pub is_counted : State → Turned → Bool
is_counted (Over ending) turned = false
is_counted (Runs m) (answers.Waits peer) = false
is_counted (Runs m) answers.Went = true
is_counted (Runs m) (answers.Ended ending) = true

-- the events with what a role told behind them
abbrev pub told_by : (me : ℕ) → List RoleEvent → Option Event → List RoleEvent
told_by me events None = events
told_by me events (Some event) = events ++ of_role me event ∷ []

-- a turn made this of a role, of the messages and of the events, and counted an instruction or didn't
pub record IsCounted (p : Program) (me : ℕ) (before after : Role) (q r : Messages) (events later : List RoleEvent) (counted : Bool) : Type 0
  where
    pub event : Option Event
    pub turned : Turned
    pub outcome_is : ◌≡◌ {A = Outcome} (record { role = after; messages = r; event = event; turned = turned }) (outcome p me before q)
    pub events_are : later ≡ told_by me events event
    pub counted_is : counted ≡ is_counted before.state turned
