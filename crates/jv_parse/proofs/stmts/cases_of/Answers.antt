use Rattle.std.proofs.Common.{◌≡◌, ◌∷◌, [], refl, sym, ◌∙◌}
use Rattle.std.proofs.lemmas.Result.{err_from_is_err_and}
use Rattle.mg_read.proofs.Loop.{Left-more, Left-done}
use Rattle.jv_grammar.specs.Stmts.{is_case, case_at, cases_at}
use Rattle.jv_grammar.proofs.StmtParts.{case_shorter}
use Rattle.jv_parse.proofs.ExprTurns.{Left-fails}
use Rattle.jv_parse.proofs.StmtTurns.{cases_start, cases_fail}
use Rattle.jv_parse.proofs.stmts.cases_of.Goals as goal

pub returns-in_err-first : goal.returns-in_err-first
returns-in_err-first c =
    let p = err_from_is_err_and c.from_residual.result c.from_residual.ensures.1 in
    rw (p.1, p.2) (cases_fail c.in_err-first.field-0.0 c.args.tokens.now c.in_err-first.ensures)

pub more-init : goal.more-init
more-init c =
    let e : c.push.new.self.items ≡ c.in_ok-first.first ∷ [] = rw (c.in_ok-push.ensures.ok, c.new-labels.ensures) refl in
    rw e (cases_start c.args.tokens.now c.in_ok-first.first c.in_ok-first.rest.now c.in_ok-first.ensures)

pub returns-in_err-label : goal.returns-in_err-label
returns-in_err-label c =
    let p = err_from_is_err_and c.from_residual-in_err-label.result c.from_residual-in_err-label.ensures.1 in
    rw (p.1, p.2) (Left-fails is_case case_at c.in_err-label.field-0.0 c.more.labels.items c.more.rest.now (cases_at c.args.tokens.now)
    (sym c.is_case.ensures ∙ c.more-test.true) c.in_err-label.ensures c.more.invariant)

pub more-smaller : goal.more-smaller
more-smaller c = case_shorter c.more.rest.now (c.in_ok-label.label, c.in_ok-label.after.now) c.in_ok-label.ensures

pub more-preserved : goal.more-preserved
more-preserved c =
    let shorter = case_shorter c.more.rest.now (c.in_ok-label.label, c.in_ok-label.after.now) c.in_ok-label.ensures in
    rw c.in_ok-push-2.ensures.ok
    (Left-more is_case case_at c.more.labels.items c.more.rest.now c.in_ok-label.label c.in_ok-label.after.now (cases_at c.args.tokens.now)
    (sym c.is_case.ensures ∙ c.more-test.true) c.in_ok-label.ensures shorter c.more.invariant)

pub returns : goal.returns
returns c = Left-done is_case case_at c.more.labels.items c.more.rest.now (cases_at c.args.tokens.now)
    (sym c.is_case.ensures ∙ c.more-test.false) c.more.invariant
