use Rattle.std.proofs.Common.{List, ◌++◌, [], ap, ◌∙◌}
use Rattle.std.specs.Prelude.{if◌then◌else◌, map}
use Rattle.std.proofs.lemmas.Result.{IfOk-weaker}
use Rattle.use_rules.specs.State.{Out}
use Rattle.use_flow.specs.View.{sight_of}
use Rattle.use_flow.specs.inner.Fields.{outs_in}
use Rattle.use_flow.specs.inner.Followed.{seen, slot_heads, has_fields, field_outs}
use Rattle.use_flow.proofs.Heading.{sent_in_turn}
use Rattle.use_flow.proofs.scene.Scene.send_heads.Goals as goal

pub returns : goal.returns
returns c =
    IfOk-weaker c.send_own.result _ _ (λ u e.
    ap (λ (os : List Out). record { outs = os; failed = c.args.log.now.failed.items; sights = map sight_of c.args.log.now.sights.items })
    (sent_in_turn (outs_in c.args.log.now.outs.items) (outs_in c.send_slots.new.outs.items) (outs_in c.send_own.new.outs.items) _ _
    (c.in_ok-send_slots.ensures ∙ ap (λ ks. outs_in c.args.log.now.outs.items ++ slot_heads (seen c.args.self.now) c.args.number ks
    c.args.sets.now) c.loop_scope-slots.ensures)
    (e ∙ ap (λ key. outs_in c.send_slots.new.outs.items ++ (if has_fields (seen c.args.self.now) then field_outs (seen c.args.self.now) key
    c.args.sets.now else [])) c.head_table-table.ensures))) c.send_own.ensures
