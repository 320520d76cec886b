-- A worked row: notes, the texts and messages that they number, and the events that they are.
use Rattle.std.specs.Prelude.{◌≡◌, List, [], ◌∷◌, Some, None, map, pos, codes}
use Rattle.mg_text.specs.Call.{Name}
use Rattle.mg_text.specs.declared.event.Carried.TheVariants as carried
use Rattle.mg_text.specs.declared.event.Event.TheVariants as seen
use Rattle.vm_world_law.specs.World.{of_role}
use Rattle.vm_events.specs.Seen.{kind_of, numbered_event}
use Rattle.vm_events.specs.declared.kind.Kind.TheVariants as kinds
use Rattle.vm_events.specs.declared.numbered.Numbered.TheVariants as numbered
use Rattle.vm_events.specs.declared.note.Load.TheVariants as loads
use Rattle.vm_events.specs.declared.note.Message.{Message}
use Rattle.vm_events.specs.declared.note.Short.TheVariants as shorts
use Rattle.vm_events.specs.declared.note.Note.{Note}
use Rattle.vm_events.specs.inner.Kept.{events_in}

abbrev pub texts : List Name
texts = codes "Counter" ∷ codes "next" ∷ codes "B" ∷ codes "more" ∷ codes "A" ∷ []

-- a message with a number, and one with a text that is also the name of a role
abbrev pub messages : List Message
messages = record { peer = 2; label = 3; load = loads.Int (pos 7) } ∷ record { peer = 4; label = 3; load = loads.Text 2 } ∷ []

abbrev pub notes : List Note
notes =
    record { role = 0; event = shorts.Made 0 0 }
    ∷ record { role = 0; event = shorts.Enter 0 1 }
    ∷ record { role = 0; event = shorts.Send 0 }
    ∷ record { role = 1; event = shorts.Look 4 3 }
    ∷ record { role = 1; event = shorts.Take 1 }
    ∷ record { role = 0; event = shorts.Answered 0 (pos 8) }
    ∷ record { role = 1; event = shorts.Left 3 }
    ∷ []

abbrev pub IsWorked : Type 0
IsWorked = events_in texts messages notes ≡
    of_role 0 (seen.Made 0 (codes "Counter"))
    ∷ of_role 0 (seen.Enter 0 (codes "next"))
    ∷ of_role 0 (seen.Send (codes "B") (codes "more") (carried.Int (pos 7)))
    ∷ of_role 1 (seen.Look (codes "A") (codes "more"))
    ∷ of_role 1 (seen.Take (codes "A") (codes "more") (carried.Text (codes "B")))
    ∷ of_role 0 (seen.Leave 0 (Some (pos 8)))
    ∷ of_role 1 (seen.Leave 3 None)
    ∷ []

-- numbered events over the same texts, and what they are
abbrev pub IsNumberedAlike : Type 0
IsNumberedAlike =
    map (numbered_event texts) (numbered.Enter 0 1 ∷ numbered.Leave 0 (Some (pos 8)) ∷ numbered.Leave 3 None ∷ []) ≡
    seen.Enter 0 (codes "next")
    ∷ seen.Leave 0 (Some (pos 8))
    ∷ seen.Leave 3 None
    ∷ []

-- what the row tells of
abbrev pub AreKinds : Type 0
AreKinds = map (λ e. kind_of e.event) (events_in texts messages notes) ≡
    kinds.Made ∷ kinds.Enter ∷ kinds.Send ∷ kinds.Look ∷ kinds.Take ∷ kinds.Leave ∷ kinds.Leave ∷ []
