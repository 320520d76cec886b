use Rattle.std.proofs.Common.{◌<◌, ◌≤◌, ◌++◌, length, map, ap, ◌∙◌, arith, string_bytes}
use Rattle.jv_core.specs.View.{slot_of}
use Rattle.use_check.specs.Report.{param_line, in_order}
use Rattle.use_check.specs.inner.Reported.{seen}
use Rattle.use_check.proofs.Listed.{order_next_by, order_end}
use Rattle.use_check.proofs.lines.Reporter.put_params.Goals as goal

pub loop-place-preserved : goal.loop-place-preserved
loop-place-preserved c =
    let lt : c.loop-place.place < length c.args.params.now = omega arith in
    order_next_by (λ f. param_line (seen c.args.self.now) f c.args.context) slot_of c.as_str.result.now (string_bytes c.in_ok-front.front)
    c.args.params.now c.loop-place.place _
    (string_bytes c.loop-place.out) _ _ c.as_str.ensures.value lt c.in_ok-put_param.ensures c.loop-place.invariant

pub returns : goal.returns
returns c =
    let end : length c.args.params.now ≤ c.loop-place.place = omega arith in
    order_end (param_line (seen c.args.self.now) (string_bytes c.in_ok-front.front) c.args.context) slot_of c.args.params.now
    c.loop-place.place (string_bytes c.loop-place.out) _
    end c.loop-place.invariant
    ∙ ap (λ f. string_bytes c.args.out.now ++ in_order (param_line (seen c.args.self.now) f c.args.context) 0
    (map slot_of c.args.params.now)) c.in_ok-front.ensures
