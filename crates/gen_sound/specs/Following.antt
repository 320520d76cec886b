-- When a machine follows a meaning: it comes to where the meaning's value is, or ends, waits or goes on as the meaning does.
use Rattle.std.specs.Prelude.{◌≡◌, ◌≤◌, ◌<◌, ℕ, List, ◌++◌, Some}
use Rattle.mg_text.specs.Call.{Name}
use Rattle.mg_text.specs.declared.event.Event.{Event}
use Rattle.mg_text.specs.declared.event.Ending.TheVariants as endings
use Rattle.jv_values.specs.Values.{Finish, Done, Zero, Null, Mismatch, NoPeer, Wait, More, Wrong}
use Rattle.jv_values.specs.Doing.{Outcome, Gives, Ends}
use Rattle.vm_model.specs.Messages.{Messages, role_named}
use Rattle.vm_model.specs.Machine.{Machine, Stepped, Waits, Stops, Steps}

-- a machine, the messages on their way, and the events so far
pub record Moment : Type 0 where
  pub machine : Machine
  pub messages : Messages
  pub events : List Event

module _ (step : Machine → Messages → Stepped) where
  -- so many steps lead from a moment to another, with these further events
  pub record Comes (c d : Moment) : Type 0 where
    pub count : ℕ
    pub further : List Event
    pub steps : Steps step c.machine c.messages count further d.machine d.messages
    pub events_are : d.events ≡ c.events ++ further

  -- the same in one step or more
  pub record Leads (c d : Moment) : Type 0 where
    pub comes : Comes c d
    pub moves : 0 < comes.count

  -- the machine ends, with these events in all
  pub record Stopped (c : Moment) (events : List Event) (last : Stepped) : Type 0 where
    pub moment : Moment
    pub comes : Comes c moment
    pub events_are : moment.events ≡ events
    pub stops : step moment.machine moment.messages ≡ last

  -- the machine waits for a message from a peer
  pub record Waiting (c : Moment) (events : List Event) (peer : Name) : Type 0 where
    pub moment : Moment
    pub comes : Comes c moment
    pub events_are : moment.events ≡ events
    pub from : ℕ
    pub named : role_named moment.messages peer ≡ Some from
    pub waits : step moment.machine moment.messages ≡ Waits from

  -- the machine goes on for at least so many steps, and has these events
  pub record Spent (budget : ℕ) (c : Moment) (events : List Event) : Type 0 where
    pub moment : Moment
    pub comes : Comes c moment
    pub events_are : moment.events ≡ events
    pub enough : budget ≤ comes.count

  -- The machine ends as the meaning does. Where the budget is spent it goes on for as many steps. Of Wrong nothing is said: no class with a
  -- `main` means it.
  abbrev pub EndsAlike : (budget : ℕ) → Moment → Finish → List Event → Type 0
  EndsAlike n c Done events = Stopped c events (Stops endings.Done)
  EndsAlike n c Zero events = Stopped c events (Stops endings.Zero)
  EndsAlike n c Null events = Stopped c events (Stops endings.Null)
  EndsAlike n c (Mismatch peer found) events = Stopped c events (Stops (endings.Mismatch peer found))
  EndsAlike n c (NoPeer peer) events = Stopped c events (Stops (endings.NoPeer peer))
  EndsAlike n c (Wait peer) events = Waiting c events peer
  EndsAlike n c More events = Spent n c events
  EndsAlike n c Wrong events = Unit {0}

  -- what the machine does from a moment where a part of the meaning has this outcome; `given` says where it comes to with a value
  abbrev pub Follows : {S A : Type 0} → (budget : ℕ) → (given : Moment → A → S → Type 0) → Moment → Outcome S A → Type 0
  Follows n given c (Gives a s) = given c a s
  Follows n given c (Ends f events) = EndsAlike n c f events
