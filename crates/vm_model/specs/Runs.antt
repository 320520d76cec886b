-- Whole runs of the machine: where they end, and what they print.
use Rattle.std.specs.Prelude.{◌≡◌, ℕ, ◌+◌, List, [], ◌∷◌, ◌++◌}
use Rattle.mg_text.specs.declared.event.Event.{Event}
use Rattle.mg_text.specs.declared.event.Event.TheVariants as seen
use Rattle.mg_text.specs.declared.event.Ending.{Ending}
use Rattle.vm_model.specs.Messages.{Messages}
use Rattle.vm_model.specs.Machine.{Machine, Stepped, Stops, Steps}

-- From a machine and its messages a run comes to this ending after so many instructions, the last counted, with these events.
pub record Runs (step : Machine → Messages → Stepped) (m : Machine) (q : Messages) (count : ℕ) (events : List Event)
    (ending : Ending) : Type 0 where
  pub steps : ℕ
  pub last : Machine
  pub messages : Messages
  pub leads : Steps step m q steps events last messages
  pub stops : step last messages ≡ Stops ending
  pub counted : count ≡ steps + 1

-- the text that an event prints, with a line feed behind it
abbrev pub event_text : Event → List ℕ
event_text (seen.Print text) = text ++ 10 ∷ []
event_text _ = []

-- the text that events print
abbrev pub printed : List Event → List ℕ
printed [] = []
printed (event ∷ events) = event_text event ++ printed events
