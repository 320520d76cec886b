use Rattle.std.proofs.Common.{refl, ap, ◌∙◌}
use Rattle.vm_events.specs.Seen.{Kept}
use Rattle.vm_events.specs.declared.tables.Tables.{Tables}
use Rattle.vm_events.proofs.Growing.{texts_grow, same_events}
use Rattle.vm_events.proofs.events.Events.number_of.Goals as goal

pub returns-clause-items : goal.returns-clause-items
returns-clause-items c =
    let before = c.self.inside.tables in
    let after : Tables = record { texts = c.number_of_copy.new.self; messages = before.messages } in
    same_events before after (texts_grow before after c.number_of_copy.ensures.grows refl) c.self.invariant.named
    c.self.inside.notes.items c.self.invariant.noted
    ∙ ap (λ (k : Kept). k.items) c.self.view_is
