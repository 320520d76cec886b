use Rattle.std.proofs.Common.{map}
use Rattle.std.proofs.lemmas.Result.{err_from_is_err_and}
use Rattle.jv_tree.specs.View.{field_of as source_field}
use Rattle.jv_core.specs.View.{field_of}
use Rattle.jv_resolve_law.specs.Members.{field, fields}
use Rattle.jv_resolve.specs.inner.Seen.{tables_seen}
use Rattle.jv_resolve.proofs.Threads.{loop_start, loop_more, loop_fail, loop_done}
use Rattle.jv_resolve.proofs.MemberSteps.{same_fields}
use Rattle.jv_resolve.proofs.classes.resolve_fields.Goals as goal

pub loop-field-init : goal.loop-field-init
loop-field-init c =
    loop_start (field (tables_seen c.args.table.now)) (source_field) (field_of) (fields (tables_seen c.args.table.now) c.args.names.now
    (map source_field c.args.fields.now)) c.args.names.now c.args.fields.now c.new-resolved.result.items
    (same_fields (tables_seen c.args.table.now) c.args.names.now (map source_field c.args.fields.now)) c.new-resolved.ensures

pub loop-field-preserved : goal.loop-field-preserved
loop-field-preserved c =
    loop_more (field (tables_seen c.args.table.now)) (source_field) (field_of) (fields (tables_seen c.args.table.now) c.args.names.now
    (map source_field c.args.fields.now)) c.loop-field.resolved.items c.loop-field.names c.args.fields.now c.loop-field.field-index
    c.loop-field.invariant c.field-item.result c.loop-field-test.true c.field-item.is c.in_ok-one.one c.push.new.self.items
    c.resolve_field.new.names
    (c.in_ok-one.ensures) c.in_ok-push.ensures.ok

pub returns : goal.returns
returns c = loop_done (field (tables_seen c.args.table.now)) (source_field) (field_of)
    (fields (tables_seen c.args.table.now) c.args.names.now (map source_field c.args.fields.now)) c.loop-field.resolved.items
    c.loop-field.names c.args.fields.now c.loop-field.field-index c.loop-field.invariant c.loop-field-test.false

pub returns-in_err-one : goal.returns-in_err-one
returns-in_err-one c =
    let p = err_from_is_err_and c.from_residual.result c.from_residual.ensures.1 in
    rw (p.1, p.2) (loop_fail (field (tables_seen c.args.table.now)) (source_field) (field_of)
    (fields (tables_seen c.args.table.now) c.args.names.now (map source_field c.args.fields.now)) c.loop-field.resolved.items
    c.loop-field.names c.args.fields.now c.loop-field.field-index c.loop-field.invariant c.field-item.result c.loop-field-test.true
    c.field-item.is c.in_err-one.field-0.0 c.in_err-one.ensures)
