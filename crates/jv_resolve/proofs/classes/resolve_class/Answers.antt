use Rattle.std.proofs.Common.{map, sym, ap, ◌∙◌}
use Rattle.std.proofs.lemmas.Result.{err_from_is_err_and}
use Rattle.std.proofs.Math.ListN.{length-map}
use Rattle.jv_tree.specs.View.{field_of as source_field, method_of as source_method}
use Rattle.jv_core.specs.Numbering.{numbers_from}
use Rattle.jv_core.specs.View.{field_of}
use Rattle.jv_resolve_law.specs.Tables.{interned}
use Rattle.jv_resolve_law.specs.Members.{fields}
use Rattle.jv_resolve.specs.inner.Seen.{entry_seen, tables_seen}
use Rattle.jv_resolve.proofs.Chains.{fails_as}
use Rattle.jv_resolve.proofs.MemberSteps.{class_made, class_fails}
use Rattle.jv_resolve.proofs.classes.resolve_class.Goals as goal

pub returns : goal.returns
returns c =
    class_made (tables_seen c.args.table.now) c.args.names.now (entry_seen c.args.entry.now) c.in_ok-name.name.0 c.add_name.new.names
    (ap (interned c.args.names.now) (sym c.as_str.ensures) ∙ c.in_ok-name.ensures.number)
    (map field_of c.in_ok-fields.fields.items) c.in_ok-methods.methods.items c.followed.result c.resolve_fields.new.names
    (ap (λ fs. fields (tables_seen c.args.table.now) c.add_name.new.names (map source_field fs)) (sym c.as_slice.ensures.items) ∙
    c.in_ok-fields.ensures)
    (c.in_ok-methods.ensures ∙ ap (numbers_from c.args.entry.now.first_method)
    (c.len.ensures.value ∙ sym (length-map c.args.entry.now.class.now.methods.items source_method))) c.followed.ensures

pub returns-in_err-fields : goal.returns-in_err-fields
returns-in_err-fields c =
    let p = err_from_is_err_and c.from_residual-in_err-fields.result c.from_residual-in_err-fields.ensures.1 in
    rw (p.1, p.2)
    (class_fails (tables_seen c.args.table.now) c.args.names.now (entry_seen c.args.entry.now) c.in_ok-name.name.0 c.add_name.new.names
    (ap (interned c.args.names.now) (sym c.as_str.ensures) ∙ c.in_ok-name.ensures.number)
    c.in_err-fields.field-0.0 (fails_as c.in_err-fields.field-0.0 _ _
    (ap (λ fs. fields (tables_seen c.args.table.now) c.add_name.new.names (map source_field fs)) (sym c.as_slice.ensures.items))
    c.in_err-fields.ensures))
