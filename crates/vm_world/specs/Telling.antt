-- Events of messages.
use Rattle.std.specs.Prelude.{◌≡◌, List, [], ◌∷◌, ◌++◌}
use Rattle.mg_text.specs.declared.event.Event.{Event}
use Rattle.mg_text.specs.declared.event.Event.TheVariants as seen
use Rattle.vm_world_law.specs.declared.role.RoleEvent.{RoleEvent}
use Rattle.vm_events.specs.declared.kind.Kind.{Kind}
use Rattle.vm_events.specs.declared.kind.Kind.TheVariants as kinds

-- an event that neither sends a message nor takes one
abbrev pub MovesNone : Event → Type 0
MovesNone (seen.Send peer label payload) = ⊥
MovesNone (seen.Take peer label payload) = ⊥
MovesNone _ = Unit {0}

-- the same by the kind of the event
abbrev pub KindMovesNone : Kind → Type 0
KindMovesNone kinds.Send = ⊥
KindMovesNone kinds.Take = ⊥
KindMovesNone _ = Unit {0}

-- the last of these is one, where there is any
abbrev pub LastMovesNone : List RoleEvent → Type 0
LastMovesNone events = (before : List RoleEvent) (last : RoleEvent) → events ≡ before ++ last ∷ [] → MovesNone last.event
