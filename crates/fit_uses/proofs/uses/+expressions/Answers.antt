use Rattle.std.proofs.lemmas.Result.{IfOk-weaker}
use Rattle.fit_uses.proofs.Using.{inner_used, both_used, call_used, talk_used}
use Rattle.fit_uses.proofs.uses.+expressions.Goals as goal

pub uses_of-returns-in-Neg : goal.uses_of-returns-in-Neg
uses_of-returns-in-Neg t c =
    IfOk-weaker c.uses_of.result _ _ (λ u e. inner_used c.args.expr.now c.args.uses.now.items _ c.in-Neg.inner c.deref-in-Neg.result.now
    c.deref-in-Neg.ensures c.in-Neg.is e) c.uses_of.ensures

pub uses_of-returns-in-Binary : goal.uses_of-returns-in-Binary
uses_of-returns-in-Binary t c =
    IfOk-weaker c.uses_of_two.result _ _ (λ u e. both_used c.args.expr.now c.args.uses.now.items _ c.in-Binary.left c.in-Binary.right
    c.deref.result.now c.deref-in-Binary.result.now c.deref.ensures c.deref-in-Binary.ensures c.in-Binary.is e) c.uses_of_two.ensures

pub uses_of-returns-in-Protocol : goal.uses_of-returns-in-Protocol
uses_of-returns-in-Protocol t c =
    IfOk-weaker c.uses_of_all-in-Protocol.result _ _ (λ u e. call_used c.args.expr.now c.args.uses.now.items _ c.in-Protocol.args
    c.as_slice-in-Protocol.result.now c.as_slice-in-Protocol.ensures.items c.in-Protocol.is e) c.uses_of_all-in-Protocol.ensures

pub uses_of-returns-in_ok-push-in-Session : goal.uses_of-returns-in_ok-push-in-Session
uses_of-returns-in_ok-push-in-Session t c =
    IfOk-weaker c.uses_of_all.result _ _ (λ u e. talk_used c.args.expr.now c.args.uses.now.items _ c.in-Session.call c.in-Session.args
    c.as_slice.result.now c.push.new.self.items c.as_slice.ensures.items c.in-Session.is c.in_ok-push-in-Session.ensures.ok e)
    c.uses_of_all.ensures
