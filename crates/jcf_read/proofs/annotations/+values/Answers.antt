use Rattle.std.proofs.lemmas.Result.{err_from_is_err_and}
use Rattle.jcf_read.specs.Annotations.{behind_values, behind_annotation}
use Rattle.jcf_read.proofs.Folds.{goes_on, ends, is_done, passed, not_passed}
use Rattle.jcf_read.proofs.annotations.+values.Goals as goal

pub behind_values-returns-in_err-after : goal.behind_values-returns-in_err-after
unfolding behind_values
behind_values-returns-in_err-after t c =
    let p = err_from_is_err_and c.from_residual-in_err-after.result c.from_residual-in_err-after.ensures.1 in
    rw (p.1, p.2, c.in_ok-count.ensures) (ends _ _ c.in_err-after.field-0.0 c.values-test.true (not_passed _ _ c.in_err-after.ensures)
    c.values.invariant)

pub behind_values-values-preserved : goal.behind_values-values-preserved
behind_values-values-preserved t c = goes_on _ c.values-test.true (passed _ _ c.in_ok-after.ensures) c.values.invariant

pub behind_values-returns : goal.behind_values-returns
unfolding behind_values
behind_values-returns t c = rw c.in_ok-count.ensures (is_done _ c.values-test.false c.values.invariant)

pub behind_annotation-returns-in_err-after : goal.behind_annotation-returns-in_err-after
unfolding behind_annotation
behind_annotation-returns-in_err-after t c =
    let p = err_from_is_err_and c.from_residual-in_err-after.result c.from_residual-in_err-after.ensures.1 in
    rw (p.1, p.2, c.in_ok-middle.ensures, c.in_ok-count.ensures) (ends _ _ c.in_err-after.field-0.0 c.elements-test.true
    (not_passed _ _ c.in_err-after.ensures) c.elements.invariant)

pub behind_annotation-elements-preserved : goal.behind_annotation-elements-preserved
behind_annotation-elements-preserved t c = goes_on _ c.elements-test.true (passed _ _ c.in_ok-after.ensures) c.elements.invariant

pub behind_annotation-returns : goal.behind_annotation-returns
unfolding behind_annotation
behind_annotation-returns t c =
    rw (c.in_ok-middle.ensures, c.in_ok-count.ensures) (is_done _ c.elements-test.false c.elements.invariant)
