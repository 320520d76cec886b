-- For private clauses: which events notes are, over the texts and messages that they number.
use Rattle.std.specs.Prelude.{ℕ, List, [], ◌<◌, length, get_or, map, Some, None, min, ◌/◌}
use Rattle.std.specs.List.{AllByRecursion}
use Rattle.mg_text.specs.Call.{Name}
use Rattle.mg_text.specs.declared.event.Carried.{Carried}
use Rattle.mg_text.specs.declared.event.Carried.TheVariants as carried
use Rattle.mg_text.specs.declared.event.Event.{Event}
use Rattle.mg_text.specs.declared.event.Event.TheVariants as events
use Rattle.vm_world_law.specs.declared.role.RoleEvent.{RoleEvent}
use Rattle.vm_events.specs.declared.note.Load.{Load}
use Rattle.vm_events.specs.declared.note.Load.TheVariants as loads
use Rattle.vm_events.specs.declared.note.Message.{Message}
use Rattle.vm_events.specs.declared.note.Short.{Short}
use Rattle.vm_events.specs.declared.note.Short.TheVariants as shorts
use Rattle.vm_events.specs.declared.note.Note.{Note}

-- the text of a number
abbrev pub text_at : (texts : List Name) → ℕ → Name
text_at texts n = get_or texts n []

-- what a message carries
abbrev pub carried_in : (texts : List Name) → Load → Carried
carried_in texts loads.Nothing = carried.Nothing
carried_in texts (loads.Int n) = carried.Int n
carried_in texts (loads.Truth b) = carried.Truth b
carried_in texts (loads.Text t) = carried.Text (text_at texts t)

abbrev pub no_message : Message
no_message = record { peer = 0; label = 0; load = loads.Nothing }

-- the message of a number
abbrev pub message_at : List Message → ℕ → Message
message_at messages n = get_or messages n no_message

abbrev pub send_in : (texts : List Name) → Message → Event
send_in texts m = events.Send (text_at texts m.peer) (text_at texts m.label) (carried_in texts m.load)

abbrev pub take_in : (texts : List Name) → Message → Event
take_in texts m = events.Take (text_at texts m.peer) (text_at texts m.label) (carried_in texts m.load)

-- the event that is kept in few bytes
abbrev pub event_in : (texts : List Name) → List Message → Short → Event
event_in texts messages (shorts.Print t) = events.Print (text_at texts t)
event_in texts messages (shorts.Made o t) = events.Made o (text_at texts t)
event_in texts messages (shorts.Enter o t) = events.Enter o (text_at texts t)
event_in texts messages (shorts.Left o) = events.Leave o None
event_in texts messages (shorts.Answered o answer) = events.Leave o (Some answer)
event_in texts messages (shorts.Send m) = send_in texts (message_at messages m)
event_in texts messages (shorts.Look p l) = events.Look (text_at texts p) (text_at texts l)
event_in texts messages (shorts.Take m) = take_in texts (message_at messages m)

-- the event of a note, with its role
abbrev pub role_event_in : (texts : List Name) → List Message → Note → RoleEvent
role_event_in texts messages note = record { role = note.role; event = event_in texts messages note.event }

-- the events of notes
abbrev pub events_in : (texts : List Name) → List Message → List Note → List RoleEvent
events_in texts messages notes = map (role_event_in texts messages) notes

-- What is numbered is there.

abbrev pub LoadIsThere : (texts : ℕ) → Load → Type 0
LoadIsThere texts (loads.Text t) = t < texts
LoadIsThere texts _ = Unit {0}

abbrev pub MessageIsThere : (texts : ℕ) → Message → Type 0
MessageIsThere texts m = (m.peer < texts) × (m.label < texts) × LoadIsThere texts m.load

abbrev pub IsThere : (texts messages : ℕ) → Short → Type 0
IsThere texts messages (shorts.Print t) = t < texts
IsThere texts messages (shorts.Made o t) = t < texts
IsThere texts messages (shorts.Enter o t) = t < texts
IsThere texts messages (shorts.Left o) = Unit {0}
IsThere texts messages (shorts.Answered o answer) = Unit {0}
IsThere texts messages (shorts.Send m) = m < messages
IsThere texts messages (shorts.Look p l) = (p < texts) × (l < texts)
IsThere texts messages (shorts.Take m) = m < messages

-- all that messages and notes number is there
pub record AreThere (texts : List Name) (messages : List Message) (notes : List Note) : Type 0 where
  pub named : AllByRecursion (MessageIsThere (length texts)) messages
  pub noted : AllByRecursion (λ note. IsThere (length texts) (length messages) note.event) notes

-- how many events more there is room for, where there is room for so many notes, messages and texts
abbrev pub room_of : (notes messages texts : ℕ) → ℕ
room_of notes messages texts = min notes (min messages (texts / 3))
