use Rattle.std.proofs.Common.{sym, ◌∙◌, arith}
use Rattle.std.proofs.lemmas.Result.{err_from_is_err_and}
use Rattle.mg_read.proofs.Loop.{Left-more, Left-done}
use Rattle.mg_read.proofs.Turns.{Left-front, Left-refused}
use Rattle.ts_parse.proofs.Members.{other_branch_shorter}
use Rattle.ts_parse.proofs.Steps.{length_toks}
use Rattle.ts_parse.proofs.methods.more_branches_of.Goals as goal

pub others-init : goal.others-init
others-init c = Left-front _ _ _ _

pub returns-in_err-other : goal.returns-in_err-other
returns-in_err-other c =
    let p = err_from_is_err_and c.from_residual.result c.from_residual.ensures.1 in
    rw (p.1, p.2) (Left-refused _ _ _ _ _ _ (sym c.is_mark.ensures ∙ c.others-test.true) c.in_err-other.ensures c.others.invariant)

pub others-smaller : goal.others-smaller
others-smaller c = omega (arith, other_branch_shorter _ _ _ c.in_ok-other.ensures, length_toks)

pub others-preserved : goal.others-preserved
others-preserved c =
    let less = other_branch_shorter _ _ _ c.in_ok-other.ensures in
    rw c.in_ok-push.ensures.ok
    (Left-more _ _ _ _ _ _ _ (sym c.is_mark.ensures ∙ c.others-test.true) c.in_ok-other.ensures less c.others.invariant)

pub returns : goal.returns
returns c = Left-done _ _ _ _ _ (sym c.is_mark.ensures ∙ c.others-test.false) c.others.invariant
