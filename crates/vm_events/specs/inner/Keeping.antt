-- For private clauses: how an event is kept. What is kept stays, and more comes behind it.
use Rattle.std.specs.Prelude.{◌≡◌, ℕ, ℤ, Option, List, ◌<◌, length}
use Rattle.std.specs.List.{AllByRecursion}
use Rattle.mg_text.specs.Call.{Name}
use Rattle.mg_text.specs.declared.event.Carried.{Carried}
use Rattle.mg_text.specs.declared.event.Event.{Event}
use Rattle.mg_text.specs.declared.event.Event.TheVariants as seen
use Rattle.vm_events.specs.Seen.{Grows, kind_of, IsNamed, numbered_event}
use Rattle.vm_events.specs.declared.kind.Kind.{Kind}
use Rattle.vm_events.specs.declared.numbered.Numbered.{Numbered}
use Rattle.vm_events.specs.declared.note.Load.{Load}
use Rattle.vm_events.specs.declared.note.Message.{Message}
use Rattle.vm_events.specs.declared.note.Short.{Short}
use Rattle.vm_events.specs.declared.tables.Tables.{Tables}
use Rattle.vm_events.specs.inner.Kept.{text_at, carried_in, message_at, event_in, LoadIsThere, MessageIsThere, IsThere}

-- a text has a number
pub record HasNumber (before after : List Name) (n : ℕ) (text : Name) : Type 0 where
  pub grows : Grows before after
  pub there : n < length after
  pub says : text_at after n ≡ text

-- what a message carries is kept
pub record HasLoad (before after : List Name) (load : Load) (payload : Carried) : Type 0 where
  pub grows : Grows before after
  pub there : LoadIsThere (length after) load
  pub says : carried_in after load ≡ payload

-- both tables grow, and the messages stay such that all that they number is there
pub record Grow (before after : Tables) : Type 0 where
  pub texts : Grows before.texts.kept.items after.texts.kept.items
  pub messages : Grows before.messages.items after.messages.items
  pub named : AllByRecursion (MessageIsThere (length before.texts.kept.items)) before.messages.items →
      AllByRecursion (MessageIsThere (length after.texts.kept.items)) after.messages.items

-- a message has a number
pub record HasMessage (before after : Tables) (n : ℕ) (peer label : Name) (payload : Carried) : Type 0 where
  pub grow : Grow before after
  pub there : n < length after.messages.items
  pub to : text_at after.texts.kept.items (message_at after.messages.items n).peer ≡ peer
  pub labelled : text_at after.texts.kept.items (message_at after.messages.items n).label ≡ label
  pub carries : carried_in after.texts.kept.items (message_at after.messages.items n).load ≡ payload

-- that a method is left is kept, which names nothing
pub record IsLeft (short : Short) (object : ℕ) (answer : Option ℤ) : Type 0 where
  pub there : (texts messages : ℕ) → IsThere texts messages short
  pub says : (texts : List Name) (messages : List Message) → event_in texts messages short ≡ seen.Leave object answer

-- an event is kept
pub record Keeps (before after : Tables) (short : Short) (event : Event) : Type 0 where
  pub grow : Grow before after
  pub there : IsThere (length after.texts.kept.items) (length after.messages.items) short
  pub says : event_in after.texts.kept.items after.messages.items short ≡ event

-- a numbered event is kept, whatever the texts
pub record IsShort (short : Short) (event : Numbered) : Type 0 where
  pub there : (texts messages : ℕ) → IsNamed texts event → IsThere texts messages short
  pub says : (texts : List Name) (messages : List Message) → event_in texts messages short ≡ numbered_event texts event

-- what is told of, whatever the texts and messages
abbrev pub IsKindOf : Kind → Short → Type 0
IsKindOf kind short = (texts : List Name) (messages : List Message) → kind ≡ kind_of (event_in texts messages short)
