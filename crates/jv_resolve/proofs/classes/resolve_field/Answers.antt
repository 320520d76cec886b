use Rattle.std.proofs.Common.{sym, ap, ◌∙◌}
use Rattle.std.specs.Prelude.{option_map}
use Rattle.std.proofs.lemmas.Result.{err_from_is_err_and}
use Rattle.jv_tree.specs.View.{field_of}
use Rattle.jv_core.specs.View.{expr_of}
use Rattle.jv_resolve_law.specs.Tables.{interned}
use Rattle.jv_resolve.specs.inner.Seen.{tables_seen}
use Rattle.jv_resolve.proofs.MemberSteps.{field_made, field_type_fails, field_value_fails}
use Rattle.jv_resolve.proofs.classes.resolve_field.Goals as goal

pub returns : goal.returns
returns c =
    field_made (tables_seen c.args.table.now) c.args.names.now (field_of c.args.field.now) c.in_ok-name.name.0 c.add_name.new.names
    (ap (interned c.args.names.now) (sym c.as_str.ensures) ∙ c.in_ok-name.ensures.number)
    c.in_ok-ty.ty (option_map expr_of c.in_ok-value.value) c.in_ok-ty.ensures c.in_ok-value.ensures

pub returns-in_err-ty : goal.returns-in_err-ty
returns-in_err-ty c =
    let p = err_from_is_err_and c.from_residual-in_err-ty.result c.from_residual-in_err-ty.ensures.1 in
    rw (p.1, p.2)
    (field_type_fails (tables_seen c.args.table.now) c.args.names.now (field_of c.args.field.now) c.in_ok-name.name.0 c.add_name.new.names
    (ap (interned c.args.names.now) (sym c.as_str.ensures) ∙ c.in_ok-name.ensures.number)
    c.in_err-ty.field-0.0 c.in_err-ty.ensures)

pub returns-in_err-value : goal.returns-in_err-value
returns-in_err-value c =
    let p = err_from_is_err_and c.from_residual-in_err-value.result c.from_residual-in_err-value.ensures.1 in
    rw (p.1, p.2)
    (field_value_fails (tables_seen c.args.table.now) c.args.names.now (field_of c.args.field.now) c.in_ok-name.name.0 c.add_name.new.names
    (ap (interned c.args.names.now) (sym c.as_str.ensures) ∙ c.in_ok-name.ensures.number)
    c.in_err-value.field-0.0 c.in_ok-ty.ty c.in_ok-ty.ensures c.in_err-value.ensures)
