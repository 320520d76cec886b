use Rattle.std.proofs.Common.{◌≡◌, ◌++◌, ℕ, true, false, rules, sym, ap, ◌∙◌, string_bytes}
use Rattle.std.proofs.lemmas.Result.{on_ok_weaker}
use Rattle.std.proofs.lemmas.List.{length-map}
use Rattle.jv_core.specs.View.{slot_of, method_of}
use Rattle.use_flow.specs.declared.fields.FieldTable.TheVariants as tables
use Rattle.use_flow.specs.inner.Fields.{key_in}
use Rattle.use_check.specs.Report.{is_instance, own_fields, field_lines}
use Rattle.use_check.specs.inner.Reported.{seen}
use Rattle.use_check.proofs.Listed.{none_put, some_put}
use Rattle.use_check.proofs.lines.Reporter.put_head_fields.Goals as goal

pub returns-then-not-is_instance : goal.returns-then-not-is_instance
returns-then-not-is_instance c =
    let absent : c.is_instance.result ≡ false = search rules in
    none_put c.is_instance.result (is_instance c.args.method.now.kind) _ (string_bytes c.args.out.now) c.is_instance.ensures absent

pub returns : goal.returns
returns c =
    let there : c.is_instance.result ≡ true = search rules in
    on_ok_weaker c.put_own_fields.result (λ e. some_put c.is_instance.result (is_instance c.args.method.now.kind) _
    (string_bytes c.args.out.now) _ c.is_instance.ensures there
    (e ∙ ap (λ (n : ℕ). string_bytes c.args.out.now ++ field_lines (seen c.args.self.now) c.args.front.now
    (key_in (tables.Head c.args.context c.args.loop_number n))
    (own_fields (seen c.args.self.now) (method_of c.args.method.now)))
    (c.len-slots.ensures.value ∙ sym (length-map c.args.method.now.slots.items slot_of)))) c.put_own_fields.ensures
