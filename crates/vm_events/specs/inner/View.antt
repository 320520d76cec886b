-- For private clauses: the events that are kept, as contracts see them.
use Rattle.vm_events.specs.Seen.{Kept}
use Rattle.vm_events.specs.declared.events.Events.TheInside.{Inside}
use Rattle.vm_events.specs.inner.Kept.{events_in, AreThere, room_of}

abbrev pub view_of : Inside → Kept
view_of e = record {
  items = events_in e.tables.texts.kept.items e.tables.messages.items e.notes.items;
  spare = room_of e.notes.spare e.tables.messages.spare e.tables.texts.kept.spare;
  texts = e.tables.texts.kept.items;
}

-- all that is numbered is there
abbrev pub IsKept : Inside → Type 0
IsKept e = AreThere e.tables.texts.kept.items e.tables.messages.items e.notes.items
