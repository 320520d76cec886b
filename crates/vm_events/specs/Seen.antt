-- What contracts see of the events that are kept, what an event is that is read where its texts are kept, and what one is whose texts
-- are numbers.
use Rattle.std.specs.Prelude.{◌≡◌, ℕ, List, [], ◌++◌, ◌<◌, length, get_or}
use Rattle.mg_text.specs.Call.{Name}
use Rattle.mg_text.specs.declared.event.Carried.{Carried}
use Rattle.mg_text.specs.declared.event.Carried.TheVariants as carried
use Rattle.mg_text.specs.declared.event.Event.{Event}
use Rattle.mg_text.specs.declared.event.Event.TheVariants as events
use Rattle.vm_world_law.specs.declared.role.RoleEvent.{RoleEvent}
use Rattle.vm_events.specs.declared.kind.Kind.{Kind}
use Rattle.vm_events.specs.declared.kind.Kind.TheVariants as kinds
use Rattle.vm_events.specs.declared.numbered.Numbered.{Numbered}
use Rattle.vm_events.specs.declared.numbered.Numbered.TheVariants as numbered
use Rattle.vm_events.specs.declared.seen.SeenCarried.{SeenCarried}
use Rattle.vm_events.specs.declared.seen.SeenCarried.TheVariants as loads
use Rattle.vm_events.specs.declared.seen.SeenEvent.{SeenEvent}
use Rattle.vm_events.specs.declared.seen.SeenEvent.TheVariants as seen
use Rattle.vm_events.specs.declared.seen.Noted.{Noted}

-- the events in their order, how many more fit with no need of memory, and the texts that are kept, in the order of their numbers
pub record Kept : Type 0 where
  pub items : List RoleEvent
  pub spare : ℕ
  pub texts : List Name

-- nothing is taken away, and these come behind
abbrev pub Grows : {A : Type 0} → (before after : List A) → Type 0
Grows {A} before after = (more : List A) × (after ≡ before ++ more)

-- a number is that of a text
pub record IsNumbered (texts : List Name) (n : ℕ) (text : Name) : Type 0 where
  pub there : n < length texts
  pub says : get_or texts n [] ≡ text

-- what a message carries
abbrev pub carried_of : SeenCarried → Carried
carried_of loads.Nothing = carried.Nothing
carried_of (loads.Int n) = carried.Int n
carried_of (loads.Truth b) = carried.Truth b
carried_of (loads.Text text) = carried.Text text.now

-- the event
abbrev pub event_of : SeenEvent → Event
event_of (seen.Print text) = events.Print text.now
event_of (seen.Made o class) = events.Made o class.now
event_of (seen.Enter o method) = events.Enter o method.now
event_of (seen.Leave o answer) = events.Leave o answer
event_of (seen.Send peer label payload) = events.Send peer.now label.now (carried_of payload)
event_of (seen.Look peer label) = events.Look peer.now label.now
event_of (seen.Take peer label payload) = events.Take peer.now label.now (carried_of payload)

-- the event with its role
abbrev pub role_event_of : Noted → RoleEvent
role_event_of noted = record { role = noted.role; event = event_of noted.event }

-- what is told of
abbrev pub kind_of : Event → Kind
kind_of (events.Print text) = kinds.Print
kind_of (events.Made o class) = kinds.Made
kind_of (events.Enter o method) = kinds.Enter
kind_of (events.Leave o answer) = kinds.Leave
kind_of (events.Send peer label payload) = kinds.Send
kind_of (events.Look peer label) = kinds.Look
kind_of (events.Take peer label payload) = kinds.Take

-- the name of a numbered event is there, of so many texts
abbrev pub IsNamed : (texts : ℕ) → Numbered → Type 0
IsNamed texts (numbered.Enter o method) = method < texts
IsNamed texts (numbered.Leave o answer) = Unit {0}

-- the event whose name has this number
abbrev pub numbered_event : (texts : List Name) → Numbered → Event
numbered_event texts (numbered.Enter o method) = events.Enter o (get_or texts method [])
numbered_event texts (numbered.Leave o answer) = events.Leave o answer
