-- The laws of worlds, for every list of turns.
use Rattle.std.specs.Prelude.{◌≡◌, ◌≢◌, ◌<◌, ℕ, List, [], ◌∷◌, ◌++◌, length, Some, slice_get}
use Rattle.mg_text.specs.declared.event.Event.{Event}
use Rattle.mg_text.specs.declared.event.Sent.{Sent}
use Rattle.vm_model.specs.Program.{Program}
use Rattle.vm_model.specs.Messages.{Messages, on_way}
use Rattle.vm_model.specs.Machine.{Machine, Steps}
use Rattle.vm_model.specs.Runs as whole
use Rattle.vm_model.specs.Start.{IsStart}
use Rattle.vm_model.specs.Step.{step}
use Rattle.mg_text.specs.Call.{Name}
use Rattle.jv_values.specs.Alike.{Prefix}
use Rattle.vm_world_law.specs.declared.role.RoleMain.{RoleMain}
use Rattle.vm_world_law.specs.Doing.{DoesOne}
use Rattle.vm_world_law.specs.World.{State, Runs, Over, Role, World, turn, turns, IsFresh, IsBegun, name_of, events_of, sent, took, waits}
use Rattle.vm_world_law.specs.World.{Rests}

-- A step looks at and changes the lists of its role alone.
abbrev pub StepsDoOne : Type 0
StepsDoOne = (roles : List Name) (me : ℕ) (p : Program) (m : Machine) → DoesOne roles me (step p me m)

-- where a role begins: at the `main` of its class
pub record BeginsAt (p : Program) (w : World) (r : ℕ) (main : RoleMain) : Type 0 where
  pub start : Machine
  pub starts : IsStart p main.class start
  pub role : slice_get w.roles r ≡ Some (record { state = Runs start; count = 0 })
  pub name : name_of w r ≡ main.role

-- A world that begins is before its first turn, with each role where it begins.
abbrev pub BegunIsFresh : Type 0
BegunIsFresh = (p : Program) (mains : List RoleMain) (w : World) → IsBegun p mains w →
    IsFresh w × ((r : ℕ) (main : RoleMain) → slice_get mains r ≡ Some main → BeginsAt p w r main)

-- What a role took from another is a prefix of what that sent to it, and the list between them is the rest.
abbrev pub Delivers : World → Type 0
Delivers w = (from to : ℕ) → from < length w.messages.roles → to < length w.messages.roles →
    sent w from to ≡ took w to from ++ on_way w.messages from to

abbrev pub TurnsDeliver : Type 0
TurnsDeliver = (p : Program) (w : World) → IsFresh w → (order : List ℕ) → Delivers (turns p w order)

-- A role alone.

-- lists on which a role may run alone: those to it begin with what the others sent to it, and these messages come later
pub record Begin (w : World) (r : ℕ) (later : ℕ → List Sent) (q : Messages) : Type 0 where
  pub roles : q.roles ≡ w.messages.roles
  pub lists : (from : ℕ) → from < length w.messages.roles → from ≢ r → on_way q from r ≡ sent w from r ++ later from

-- what is left to a role: the messages on their way to it, and those that come later
pub record Left (w : World) (r : ℕ) (later : ℕ → List Sent) (q : Messages) : Type 0 where
  pub roles : q.roles ≡ w.messages.roles
  pub lists : (from : ℕ) → from < length w.messages.roles → from ≢ r → on_way q from r ≡ on_way w.messages from r ++ later from

module _ (p : Program) (w : World) (r : ℕ) (later : ℕ → List Sent) (start : Machine) (q : Messages) (count : ℕ) where
  -- alone on these lists, the machine of a role comes to where the role stands, with the same events and after as many instructions
  pub record Arrives (m : Machine) : Type 0 where
    pub messages : Messages
    pub steps : Steps (step p r) start q count (events_of r w.events) m messages
    pub left : Left w r later messages

  abbrev pub ComesAlone : State → Type 0
  ComesAlone (Runs m) = Arrives m
  ComesAlone (Over ending) = whole.Runs (step p r) start q count (events_of r w.events) ending

-- Whatever turns were taken, a role did what its machine does alone, on lists that begin with what the others sent to it.
abbrev pub RolesRunAlone : Type 0
RolesRunAlone = (p : Program) (w : World) → IsFresh w → (order : List ℕ) → (r : ℕ) (start : Machine) (role : Role) →
    slice_get w.roles r ≡ Some (record { state = Runs start; count = 0 }) → slice_get (turns p w order).roles r ≡ Some role →
    (later : ℕ → List Sent) (q : Messages) → Begin (turns p w order) r later q →
    ComesAlone p (turns p w order) r later start q role.count role.state

-- A run over a prefix of the messages is one over longer lists.

-- lists to a role that are longer by these messages
pub record Longer (r : ℕ) (later : ℕ → List Sent) (q q' : Messages) : Type 0 where
  pub roles : q'.roles ≡ q.roles
  pub lists : (from : ℕ) → from < length q.roles → from ≢ r → on_way q' from r ≡ on_way q from r ++ later from

-- what is come to on longer lists
pub record StepsOn (p : Program) (r : ℕ) (later : ℕ → List Sent) (m : Machine) (q : Messages) (count : ℕ) (events : List Event)
    (n : Machine)
    (left : Messages) : Type 0 where
  pub messages : Messages
  pub steps : Steps (step p r) m q count events n messages
  pub longer : Longer r later left messages

abbrev pub LongerListsDoNoHarm : Type 0
LongerListsDoNoHarm = (p : Program) (r : ℕ) (later : ℕ → List Sent) (m : Machine) (q q' : Messages) (count : ℕ) (events : List Event)
    (n : Machine) (left : Messages) → Longer r later q q' → Steps (step p r) m q count events n left →
    StepsOn p r later m q' count events n left

-- The order of turns.

-- the events of each role so far are a prefix of those in another world
abbrev pub EventsBegin : World → World → Type 0
EventsBegin v w = (r : ℕ) → r < length w.roles → Prefix (events_of r v.events) (events_of r w.events)

-- each role has the same events and stands at the same place after as many instructions, and the same messages are on their way
pub record SameForAll (v w : World) : Type 0 where
  pub events : (r : ℕ) → r < length w.roles → events_of r v.events ≡ events_of r w.events
  pub roles : v.roles ≡ w.roles
  pub messages : v.messages ≡ w.messages

-- Two lists of turns after which the world rests come to the same, and what a role shows under any turns is a prefix of what it shows
-- there.
abbrev pub OrderIsFreeFrom : Program → World → Type 0
OrderIsFreeFrom p w = (resting other : List ℕ) → Rests p (turns p w resting) →
    EventsBegin (turns p w other) (turns p w resting)
    × (Rests p (turns p w other) → SameForAll (turns p w other) (turns p w resting))

abbrev pub OrderIsFree : Type 0
OrderIsFree = (p : Program) (w : World) → IsFresh w → OrderIsFreeFrom p w

-- where a role waits for a message, the turn of another doesn't send it
abbrev pub SendsNone : Program → World → (sender waiting : ℕ) → Type 0
SendsNone p w sender waiting = (peer : ℕ) → waits p w waiting ≡ Some peer → waits p (turn p w sender) waiting ≡ Some peer

-- Turns of two roles come to the same whichever is first, but where one waits for what the other sends.
abbrev pub TurnsSwap : Type 0
TurnsSwap = (p : Program) (w : World) → IsFresh w → (order : List ℕ) (a b : ℕ) → a ≢ b →
    SendsNone p (turns p w order) a b → SendsNone p (turns p w order) b a →
    SameForAll (turns p w (order ++ a ∷ b ∷ [])) (turns p w (order ++ b ∷ a ∷ []))
