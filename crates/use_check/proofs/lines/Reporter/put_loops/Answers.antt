use Rattle.std.proofs.Common.{◌<◌, ◌≤◌, ◌++◌, List, length, map, ap, ◌∙◌, arith, string_bytes}
use Rattle.jv_core.specs.declared.program.CoreLoop.{CoreLoop}
use Rattle.jv_core.specs.View.{loop_of, method_of}
use Rattle.use_check.specs.Report.{loop_lines, in_order}
use Rattle.use_check.specs.inner.Reported.{seen}
use Rattle.use_check.proofs.Listed.{order_next, order_end}
use Rattle.use_check.proofs.lines.Reporter.put_loops.Goals as goal

pub loop-place-preserved : goal.loop-place-preserved
loop-place-preserved c =
    let lt : c.loop-place.place < length c.as_slice-loops.result.now = omega arith in
    order_next (loop_lines (seen c.args.self.now) c.args.name.now c.args.context (method_of c.args.method.now)) loop_of
    c.as_slice-loops.result.now c.loop-place.place
    c.index-loops-place.result (string_bytes c.loop-place.out) _ _ lt c.index-loops-place.is
    (rw (c.as_str.ensures.value, c.in_ok-front.ensures, c.in_ok-loop_number.ensures) at c.in_ok-put_head.ensures) c.loop-place.invariant

pub returns : goal.returns
returns c =
    let end : length c.as_slice-loops.result.now ≤ c.loop-place.place = omega arith in
    order_end (loop_lines (seen c.args.self.now) c.args.name.now c.args.context (method_of c.args.method.now)) loop_of
    c.as_slice-loops.result.now c.loop-place.place
    (string_bytes c.loop-place.out) _ end c.loop-place.invariant
    ∙ ap (λ (xs : List CoreLoop). string_bytes c.args.out.now
    ++ in_order (loop_lines (seen c.args.self.now) c.args.name.now c.args.context (method_of c.args.method.now)) 0 (map loop_of xs))
    c.as_slice-loops.ensures.items
