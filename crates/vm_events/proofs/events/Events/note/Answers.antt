use Rattle.std.proofs.Common.{length, refl, sym, subst}
use Rattle.vm_events.specs.Seen.{Kept, IsNamed}
use Rattle.vm_events.proofs.Growing.{grow_none, still_kept}
use Rattle.vm_events.proofs.events.Events.note.Goals as goal

pub invariant_of-self : goal.invariant_of-self
invariant_of-self c =
    let tables = c.self.inside.tables in
    still_kept tables tables (grow_none tables) c.self.inside.notes.items c.add.new.self.items c.args.role c.short_of.result _
    (c.short_of.ensures.there (length tables.texts.kept.items) (length tables.messages.items)
    (subst (λ (k : Kept). IsNamed (length k.texts) c.args.event) (sym c.self.view_is) c.requires.named))
    refl c.self.invariant c.add.ensures.items
