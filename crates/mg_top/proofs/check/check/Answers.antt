use Rattle.std.proofs.Common.{Bool, subst, sym}
use Rattle.std.proofs.lemmas.Result.{err_from_is_err_and}
use Rattle.mg_words.specs.Words.{Check}
use Rattle.mg_top.specs.Commands.{Gives}
use Rattle.mg_top.specs.inner.Preparing.{IsCarried}
use Rattle.mg_top.proofs.check.check.Goals as goal

pub returns-in_err-delivery : goal.returns-in_err-delivery
returns-in_err-delivery c =
    let e = err_from_is_err_and c.from_residual.result c.from_residual.ensures.1 in
    rw (e.1, e.2) tt

pub returns-then-all : goal.returns-then-all
returns-then-all c =
    let d = c.in_ok-delivery.delivery in
    subst (λ (all : Bool). Gives (Check all c.args.names.now) c.args.contents.now d.actions.items d.status) (sym c.if-all.true)
    c.in_ok-delivery.ensures

pub returns : goal.returns
returns c =
    subst (λ (all : Bool). IsCarried (Check all c.args.names.now) c.args.contents.now c.check_first.result) (sym c.if-all.false)
    c.check_first.ensures
