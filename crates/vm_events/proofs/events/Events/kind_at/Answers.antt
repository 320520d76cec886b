use Rattle.std.proofs.Common.{◌<◌, length, option_map, slice_get, sym, ap, subst, ◌∙◌}
use Rattle.std.proofs.lemmas.List.{length-map}
use Rattle.vm_world_law.specs.declared.role.RoleEvent.{RoleEvent}
use Rattle.vm_events.specs.Seen.{Kept, kind_of}
use Rattle.vm_events.specs.inner.Kept.{role_event_in}
use Rattle.vm_events.proofs.NoteKinds.{kind_there}
use Rattle.vm_events.proofs.events.Events.kind_at.Goals as goal

pub returns : goal.returns
returns c =
    let texts = c.self.inside.tables.texts.kept.items in
    let messages = c.self.inside.tables.messages.items in
    let notes = c.self.inside.notes.items in
    let within : c.args.place < length notes =
    subst (λ n. c.args.place < n) (length-map notes (role_event_in texts messages))
    (subst (λ (k : Kept). c.args.place < length k.items) (sym c.self.view_is) c.requires) in
    kind_there texts messages notes c.as_slice.result.now c.args.place _ c.kind_of.result within c.as_slice.ensures.items c.kind_of.ensures
    ∙ ap (λ (k : Kept). option_map (λ (e : RoleEvent). kind_of e.event) (slice_get k.items c.args.place)) c.self.view_is
