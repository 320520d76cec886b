use Rattle.std.proofs.lemmas.Result.{IfOk-weaker}
use Rattle.use_flow.proofs.Naming.{inner_named, both_named, call_named}
use Rattle.use_flow.proofs.named.+calls.Goals as goal

pub calls_in-returns-in-Neg : goal.calls_in-returns-in-Neg
calls_in-returns-in-Neg t c =
    IfOk-weaker c.calls_in.result _ _ (λ u e. inner_named c.args.expr.now c.args.named.now.items _ c.in-Neg.inner c.deref-in-Neg.result.now
    c.deref-in-Neg.ensures c.in-Neg.is e) c.calls_in.ensures

pub calls_in-returns-in-Binary : goal.calls_in-returns-in-Binary
calls_in-returns-in-Binary t c =
    IfOk-weaker c.calls_in_two.result _ _ (λ u e. both_named c.args.expr.now c.args.named.now.items _ c.in-Binary.left c.in-Binary.right
    c.deref.result.now c.deref-in-Binary.result.now c.deref.ensures c.deref-in-Binary.ensures c.in-Binary.is e) c.calls_in_two.ensures

pub calls_in-returns-in_ok-push-in-Protocol : goal.calls_in-returns-in_ok-push-in-Protocol
calls_in-returns-in_ok-push-in-Protocol t c =
    IfOk-weaker c.calls_in_all-in-Protocol.result _ _ (λ u e. call_named c.args.expr.now c.args.named.now.items _ c.in-Protocol.method
    c.in-Protocol.args c.as_slice-in-Protocol.result.now c.push.new.self.items c.as_slice-in-Protocol.ensures.items c.in-Protocol.is
    c.in_ok-push-in-Protocol.ensures.items e) c.calls_in_all-in-Protocol.ensures
