-- The kind of a note is that of its event.
use Rattle.std.proofs.Common.{◌≡◌, ◌<◌, ℕ, List, Option, Some, length, get_or, option_map, slice_get, sym, ap, ◌∙◌}
use Rattle.std.proofs.lemmas.Option.{slice_get-map, slice_get-get_or}
use Rattle.mg_text.specs.Call.{Name}
use Rattle.vm_world_law.specs.declared.role.RoleEvent.{RoleEvent}
use Rattle.vm_events.specs.Seen.{kind_of}
use Rattle.vm_events.specs.declared.kind.Kind.{Kind}
use Rattle.vm_events.specs.declared.note.Message.{Message}
use Rattle.vm_events.specs.declared.note.Note.{Note}
use Rattle.vm_events.specs.inner.Kept.{event_in, role_event_in, events_in}
use Rattle.vm_events.specs.inner.Keeping.{IsKindOf}

pub kind_there : (texts : List Name) (messages : List Message) (notes rows : List Note) (place : ℕ) (d : Note) (kind : Kind) →
    place < length notes → rows ≡ notes → IsKindOf kind (get_or rows place d).event →
    Some kind ≡ option_map (λ (e : RoleEvent). kind_of e.event) (slice_get (events_in texts messages notes) place)
kind_there texts messages notes rows place d kind within same is =
    let kind_in : RoleEvent → Kind = λ e. kind_of e.event in
    let event : Note → RoleEvent = role_event_in texts messages in
    ap (λ (k : Kind). Some k) (is texts messages)
    ∙ ap (λ (ns : List Note). Some (kind_in (event (get_or ns place d)))) same
    ∙ ap (λ (o : Option Note). option_map kind_in (option_map event o)) (sym (slice_get-get_or notes place d within))
    ∙ ap (option_map kind_in) (sym (slice_get-map event notes place))
