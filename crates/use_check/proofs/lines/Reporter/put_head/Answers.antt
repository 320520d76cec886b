use Rattle.std.proofs.Common.{◌++◌, ℕ, List, map, ap, ◌∙◌, string_bytes}
use Rattle.std.specs.List.{flat_map}
use Rattle.std.proofs.lemmas.Result.{on_ok_weaker}
use Rattle.jv_core.specs.declared.program.CoreSlot.{CoreSlot}
use Rattle.jv_core.specs.View.{slot_of}
use Rattle.use_check.specs.Report.{slot_line}
use Rattle.use_check.specs.inner.Reported.{seen}
use Rattle.use_check.proofs.Listed.{two, left_by}
use Rattle.use_check.proofs.lines.Reporter.put_head.Goals as goal

pub returns-in_err-put_slots : goal.returns-in_err-put_slots
returns-in_err-put_slots c = left_by _ _ c.from_residual.result c.from_residual.ensures.1

pub returns : goal.returns
returns c =
    on_ok_weaker c.put_head_fields.result (λ e. two (string_bytes c.args.out.now) (string_bytes c.put_slots.new.out) _ _ _
    (c.in_ok-put_slots.ensures
    ∙ ap (λ (xs : List CoreSlot). string_bytes c.args.out.now
    ++ flat_map (slot_line (seen c.args.self.now) c.args.front.now c.args.context c.args.loop_number (map slot_of xs))
    c.as_slice-scope.result.now) c.as_slice-slots.ensures.items
    ∙ ap (λ (ks : List ℕ). string_bytes c.args.out.now
    ++ flat_map (slot_line (seen c.args.self.now) c.args.front.now c.args.context c.args.loop_number
    (map slot_of c.args.method.now.slots.items)) ks) c.as_slice-scope.ensures.items)
    e) c.put_head_fields.ensures
