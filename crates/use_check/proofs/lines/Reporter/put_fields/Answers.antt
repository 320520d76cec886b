use Rattle.std.proofs.Common.{◌<◌, ◌≤◌, ◌++◌, length, ap, ◌∙◌, arith, string_bytes}
use Rattle.jv_core.specs.View.{field_of}
use Rattle.use_flow.specs.inner.Fields.{key_in}
use Rattle.use_check.specs.Report.{variable_line, field_line}
use Rattle.use_check.specs.inner.Reported.{seen}
use Rattle.use_check.proofs.Listed.{order_next, order_end}
use Rattle.use_check.proofs.lines.Reporter.put_fields.Goals as goal

pub loop-place-preserved : goal.loop-place-preserved
loop-place-preserved c =
    let lt : c.loop-place.place < length c.args.fields.now = omega arith in
    order_next (field_line (seen c.args.self.now) c.args.front.now (key_in c.args.table)) field_of c.args.fields.now c.loop-place.place
    c.index-fields-place.result
    (string_bytes c.loop-place.out) _ _ lt c.index-fields-place.is
    (c.in_ok-put_variable.ensures ∙ ap (λ k. string_bytes c.loop-place.out
    ++ variable_line (seen c.args.self.now) c.args.front.now c.index-fields-place.result.name.0 c.index-fields-place.result.ty k)
    c.in_ok-key.ensures)
    c.loop-place.invariant

pub returns : goal.returns
returns c =
    let end : length c.args.fields.now ≤ c.loop-place.place = omega arith in
    order_end (field_line (seen c.args.self.now) c.args.front.now (key_in c.args.table)) field_of c.args.fields.now c.loop-place.place
    (string_bytes c.loop-place.out) _
    end c.loop-place.invariant
