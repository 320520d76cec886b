use Rattle.std.proofs.Common.{◌<◌, ◌≤◌, ◌++◌, length, ap, ◌∙◌, arith, string_bytes}
use Rattle.jv_core.specs.View.{class_of}
use Rattle.use_check.specs.Report.{class_lines, in_order}
use Rattle.use_check.specs.inner.Reported.{seen}
use Rattle.use_check.proofs.Listed.{order_next, order_end}
use Rattle.use_check.proofs.lines.Reporter.put_classes.Goals as goal

pub loop-place-preserved : goal.loop-place-preserved
loop-place-preserved c =
    let lt : c.loop-place.place < length c.classes-classes.result.now = omega arith in
    order_next (class_lines (seen c.args.self.now)) class_of c.classes-classes.result.now c.loop-place.place c.index-classes-place.result
    (string_bytes c.loop-place.out) _ _
    lt c.index-classes-place.is
    (c.in_ok-put_class.ensures ∙ ap (λ n. string_bytes c.loop-place.out ++ class_lines (seen c.args.self.now) n
    (class_of c.index-classes-place.result)) c.in_ok-class_number.ensures)
    c.loop-place.invariant

pub returns : goal.returns
returns c =
    let end : length c.classes-classes.result.now ≤ c.loop-place.place = omega arith in
    order_end (class_lines (seen c.args.self.now)) class_of c.classes-classes.result.now c.loop-place.place (string_bytes c.loop-place.out)
    _ end c.loop-place.invariant
    ∙ ap (λ xs. string_bytes c.args.out.now ++ in_order (class_lines (seen c.args.self.now)) 0 xs) c.classes-classes.ensures
