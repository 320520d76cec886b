use Rattle.std.proofs.Common.{◌++◌, ◌∷◌, [], ap, subst, ◌∙◌}
use Rattle.vm_events.specs.Seen.{Grows, Kept}
use Rattle.vm_world_law.specs.World.{of_role}
use Rattle.vm_events.proofs.Growing.{still_kept, one_more}
use Rattle.vm_events.proofs.events.Events.add.Goals as goal

pub invariant_of-self : goal.invariant_of-self
invariant_of-self c =
    still_kept c.self.inside.tables c.keep-event.new.self c.keep-event.ensures.keeps.grow c.self.inside.notes.items c.add.new.self.items
    c.args.role c.keep-event.result c.args.event c.keep-event.ensures.keeps.there c.keep-event.ensures.keeps.says c.self.invariant
    c.add.ensures.items

pub returns-clause-items : goal.returns-clause-items
returns-clause-items c =
    one_more c.self.inside.tables c.keep-event.new.self c.keep-event.ensures.keeps.grow c.self.inside.notes.items c.add.new.self.items
    c.args.role c.keep-event.result c.args.event c.keep-event.ensures.keeps.there c.keep-event.ensures.keeps.says c.self.invariant
    c.add.ensures.items
    ∙ ap (λ (r : Kept). r.items ++ of_role c.args.role c.args.event ∷ []) c.self.view_is

pub returns-clause-texts : goal.returns-clause-texts
returns-clause-texts c =
    subst (λ (k : Kept). Grows k.texts c.keep-event.new.self.texts.kept.items) c.self.view_is c.keep-event.ensures.keeps.grow.texts
