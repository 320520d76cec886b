use Rattle.std.proofs.lemmas.Result.{err_from_is_err_and}
use Rattle.jcf_read.proofs.Folds.{begins, goes_on, ends, is_done}
use Rattle.jcf_read.proofs.annotations.add_elements.Goals as goal

pub loop-init : goal.loop-init
loop-init c = begins _ _ _

pub returns-in_err-after : goal.returns-in_err-after
returns-in_err-after c =
    let p = err_from_is_err_and c.from_residual.result c.from_residual.ensures.1 in
    rw (p.1, p.2) (ends _ _ c.in_err-after.field-0.0 c.loop-test.true c.in_err-after.ensures c.loop.invariant)

pub loop-preserved : goal.loop-preserved
loop-preserved c = goes_on _ c.loop-test.true c.in_ok-after.ensures c.loop.invariant

pub returns : goal.returns
returns c = is_done _ c.loop-test.false c.loop.invariant
