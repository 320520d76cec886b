use Rattle.std.proofs.Common.{ap, sym, ◌∙◌}
use Rattle.std.specs.Prelude.{map}
use Rattle.std.proofs.lemmas.List.{map_push}
use Rattle.std.proofs.Math.ListN.{length-map}
use Rattle.jv_core.specs.View.{slot_of}
use Rattle.jv_resolve.specs.inner.Counted.{counted_seen}
use Rattle.jv_resolve.specs.inner.Seen.{tables_seen}
use Rattle.jv_resolve.proofs.StmtSteps.{slot_made}
use Rattle.jv_resolve.proofs.body.Body.add_slot.Goals as goal

pub returns-clause-it : goal.returns-clause-it
returns-clause-it c =
    slot_made (tables_seen c.args.table.now) c.args.ty.now c.args.name.now (counted_seen c.args.self.now) c.in_ok-ty.ty
    c.in_ok-number.number.0 c.in_ok-slot.slot c.add_name.new.names
    (map slot_of c.push.new.self.items) c.in_ok-ty.ensures c.in_ok-number.ensures.number
    (ap (map slot_of) c.in_ok-push.ensures.ok ∙ map_push slot_of c.args.self.now.slots.items
    (record { name = c.in_ok-number.number; ty = c.in_ok-ty.ty }))
    (c.in_ok-slot.ensures ∙ c.len.ensures.value ∙ sym (length-map c.args.self.now.slots.items slot_of))
