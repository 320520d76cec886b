use Rattle.std.proofs.Common.{◌+◌, drop, sym, ap, ◌∙◌}
use Rattle.std.proofs.lemmas.Result.{err_from_is_err_and}
use Rattle.jv_tree.specs.View.{enum_of}
use Rattle.jv_resolve_law.specs.Statements.{labels_at}
use Rattle.jv_resolve.proofs.AtIndex.{drop_at, drop_end}
use Rattle.jv_resolve.proofs.StmtLoops.{with_labels, labels_more, labels_fail, labels_done}
use Rattle.jv_resolve.proofs.labels.resolve_labels.Goals as goal

pub loop-label-preserved : goal.loop-label-preserved
loop-label-preserved c =
    labels_more (enum_of c.args.of.now.of.now) (labels_at (enum_of c.args.of.now.of.now) c.args.labels.now) c.loop-label.resolved.items
    (drop c.loop-label.label-index c.args.labels.now) c.loop-label.invariant c.label-item.result
    (drop (c.loop-label.label-index + 1) c.args.labels.now) (drop_at c.args.labels.now c.loop-label.label-index c.label-item.result
    c.loop-label-test.true c.label-item.is) c.in_ok-label.label c.in_ok-label.ensures
    ∙ ap (λ d. with_labels d (labels_at (enum_of c.args.of.now.of.now) (drop (c.loop-label.label-index + 1) c.args.labels.now)))
    (sym c.in_ok-push.ensures.ok)

pub returns-in_err-label : goal.returns-in_err-label
returns-in_err-label c =
    let p = err_from_is_err_and c.from_residual.result c.from_residual.ensures.1 in
    rw (p.1, p.2) (labels_fail (enum_of c.args.of.now.of.now) (labels_at (enum_of c.args.of.now.of.now) c.args.labels.now)
    c.loop-label.resolved.items (drop c.loop-label.label-index c.args.labels.now) c.loop-label.invariant c.label-item.result
    (drop (c.loop-label.label-index + 1) c.args.labels.now) (drop_at c.args.labels.now c.loop-label.label-index c.label-item.result
    c.loop-label-test.true c.label-item.is) c.in_err-label.field-0.0 c.in_err-label.ensures)

pub returns : goal.returns
returns c = labels_done (enum_of c.args.of.now.of.now) (labels_at (enum_of c.args.of.now.of.now) c.args.labels.now)
    c.loop-label.resolved.items (drop c.loop-label.label-index c.args.labels.now) c.loop-label.invariant
    (drop_end c.args.labels.now c.loop-label.label-index c.loop-label-test.false)
