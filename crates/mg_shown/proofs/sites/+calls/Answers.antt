use Rattle.std.proofs.lemmas.Result.{IfOk-weaker}
use Rattle.mg_shown.proofs.Walking.{inner_found, both_found, call_found, others_found}
use Rattle.mg_shown.proofs.sites.+calls.Goals as goal

pub sites_in-returns-in-Neg : goal.sites_in-returns-in-Neg
sites_in-returns-in-Neg t c =
    IfOk-weaker c.sites_in.result _ _ (λ u e. inner_found c.args.within c.args.expr.now c.args.sites.now.items _
    c.in-Neg.inner c.deref-in-Neg.result.now c.deref-in-Neg.ensures c.in-Neg.is e) c.sites_in.ensures

pub sites_in-returns-in-Binary : goal.sites_in-returns-in-Binary
sites_in-returns-in-Binary t c =
    IfOk-weaker c.sites_in_two.result _ _ (λ u e. both_found c.args.within c.args.expr.now c.args.sites.now.items _
    c.in-Binary.left c.in-Binary.right c.deref.result.now c.deref-in-Binary.result.now c.deref.ensures c.deref-in-Binary.ensures
    c.in-Binary.is e) c.sites_in_two.ensures

pub sites_in-returns-in_ok-push-in-Protocol : goal.sites_in-returns-in_ok-push-in-Protocol
sites_in-returns-in_ok-push-in-Protocol t c =
    IfOk-weaker c.sites_in_args.result _ _ (λ u e. call_found c.args.within c.args.expr.now
    c.args.sites.now.items _ c.in-Protocol.receiver c.in-Protocol.method c.in-Protocol.args
    c.as_slice.result.now c.push.new.self.items c.as_slice.ensures.items c.in-Protocol.is
    c.in_ok-push-in-Protocol.ensures.items e) c.sites_in_args.ensures

pub sites_in-returns-in-Helper : goal.sites_in-returns-in-Helper
sites_in-returns-in-Helper t c =
    IfOk-weaker c.sites_in_args-in-Helper.result _ _ (λ u e. others_found c.args.within c.args.expr.now
    c.args.sites.now.items _ c.in-Helper.args c.as_slice-in-Helper.result.now c.as_slice-in-Helper.ensures.items
    c.in-Helper.is e) c.sites_in_args-in-Helper.ensures
