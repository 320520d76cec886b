use Rattle.std.proofs.Common.{Some, option_map, map, refl, sym, ap, ◌∙◌, ⊎_elim}
use Rattle.jv_core.specs.declared.tree.CoreExpr.{CoreExpr}
use Rattle.jv_core.specs.declared.tree.CoreExprKind.TheVariants as E
use Rattle.jv_core.specs.View.{expr_of, exprs_of, method_of}
use Rattle.jv_core.proofs.ViewLaws.{kind-Int, kind-Text, kind-Constant}
use Rattle.use_rules.specs.Elements.{targets}
use Rattle.use_rules.specs.Flow.{null_test}
use Rattle.std.proofs.lemmas.Result.{IfOk-weaker}
use Rattle.use_flow.specs.declared.evaluated.CallForm.{CallForm}
use Rattle.use_flow.specs.View.{log_of}
use Rattle.use_flow.specs.inner.Followed.{seen, eval}
use Rattle.use_flow.specs.inner.CallForms.{called_as}
use Rattle.use_flow.specs.inner.Values.{test_of, protocol_call, helper_call, static_call}
use Rattle.use_flow.proofs.Answered.{IfOk-two}
use Rattle.use_flow.proofs.Following.{past_is, last_is, ways_are, opposite_is, both_are, either_is, behind_is, called_is}
use Rattle.use_flow.proofs.Following.{operands_from, conjunction_from, disjunction_from}
use Rattle.use_flow.proofs.Arms.{plain_as, neg_as, equals_as, concat_as, and_as, or_as, other_as, test_as, protocol_as, helper_as, static_as}
use Rattle.use_flow.proofs.scene.Scene.+expressions.Goals as goal

pub eval-returns-in-Int : goal.eval-returns-in-Int
eval-returns-in-Int t c =
    let place = c.args.expr.now.place in
    IfOk-weaker c.plain-in-Int.result _ _ (λ v ev. ⊎_elim
    (λ p. plain_as (seen c.args.self.now) c.args.width c.args.sets (log_of c.args.log.now) c.args.expr.now (E.Int p.0) _ v p.1
    (kind-Int p.0 place) refl ev) (⊎_elim
    (λ p. plain_as (seen c.args.self.now) c.args.width c.args.sets (log_of c.args.log.now) c.args.expr.now (E.Text p.0) _ v p.1
    (kind-Text p.0 place) refl ev)
    (λ p. plain_as (seen c.args.self.now) c.args.width c.args.sets (log_of c.args.log.now) c.args.expr.now (E.Constant p.0 p.1) _ v p.2
    (kind-Constant p.0 p.1 place) refl ev)) c.in-Int.is) c.plain-in-Int.ensures

pub eval-returns-in_ok-now-in-Neg : goal.eval-returns-in_ok-now-in-Neg
eval-returns-in_ok-now-in-Neg t c =
    IfOk-weaker c.plain.result _ _ (λ v ev.
    neg_as (seen c.args.self.now) c.args.width c.args.sets (log_of c.args.log.now) c.args.expr.now c.in-Neg.inner
    c.deref.result.now c.deref.ensures _ v c.in-Neg.is
    (last_is (eval (seen c.args.self.now) 0 (expr_of c.deref.result.now) (Some c.args.sets) (log_of c.args.log.now))
    (log_of c.eval_past.new.log) v c.in_ok-now-in-Neg.now ev c.in_ok-now-in-Neg.ensures)) c.plain.ensures

pub eval-returns-in-Equals : goal.eval-returns-in-Equals
eval-returns-in-Equals t c =
    IfOk-weaker c.eval_both-in-Equals.result _ _ (λ v ev. ⊎_elim (λ is.
    equals_as (seen c.args.self.now) c.args.width c.args.sets (log_of c.args.log.now) c.args.expr.now c.in-Equals.left c.in-Equals.right
    c.deref-in-Equals.result.now c.deref-in-Equals-2.result.now
    c.deref-in-Equals.ensures c.deref-in-Equals-2.ensures _ v is ev) (λ is.
    concat_as (seen c.args.self.now) c.args.width c.args.sets (log_of c.args.log.now) c.args.expr.now c.in-Equals.left c.in-Equals.right
    c.deref-in-Equals.result.now c.deref-in-Equals-2.result.now
    c.deref-in-Equals.ensures c.deref-in-Equals-2.ensures _ v is ev) c.in-Equals.is) c.eval_both-in-Equals.ensures

pub eval-returns-in-And : goal.eval-returns-in-And
eval-returns-in-And t c =
    IfOk-weaker c.eval_and.result _ _ (λ v ev.
    and_as (seen c.args.self.now) c.args.width c.args.sets (log_of c.args.log.now) c.args.expr.now c.in-Binary.left c.in-Binary.right
    c.deref-in-And.result.now c.deref-in-And-2.result.now
    c.deref-in-And.ensures c.deref-in-And-2.ensures _ v c.in-Binary.op c.in-Binary.is c.in-And.is ev) c.eval_and.ensures

pub eval-returns-in-Or : goal.eval-returns-in-Or
eval-returns-in-Or t c =
    IfOk-weaker c.eval_or.result _ _ (λ v ev.
    or_as (seen c.args.self.now) c.args.width c.args.sets (log_of c.args.log.now) c.args.expr.now c.in-Binary.left c.in-Binary.right
    c.deref-in-Or.result.now c.deref-in-Or-2.result.now
    c.deref-in-Or.ensures c.deref-in-Or-2.ensures _ v c.in-Binary.op c.in-Binary.is c.in-Or.is ev) c.eval_or.ensures

pub eval-returns-in-Protocol : goal.eval-returns-in-Protocol
eval-returns-in-Protocol t c =
    IfOk-weaker c.eval_call.result _ _ (λ v ev.
    protocol_as (seen c.args.self.now) c.args.width c.args.sets (log_of c.args.log.now) c.args.expr.now c.in-Protocol.method
    c.in-Protocol.args c.as_slice-in-Protocol.result.now
    c.as_slice-in-Protocol.ensures.items _ v c.in-Protocol.receiver c.in-Protocol.is ev) c.eval_call.ensures

pub eval-returns-in-Helper : goal.eval-returns-in-Helper
eval-returns-in-Helper t c =
    IfOk-weaker c.eval_call-in-Helper.result _ _ (λ v ev.
    helper_as (seen c.args.self.now) c.args.width c.args.sets (log_of c.args.log.now) c.args.expr.now c.in-Helper.method c.in-Helper.args
    c.as_slice-in-Helper.result.now
    c.as_slice-in-Helper.ensures.items _ v c.in-Helper.is ev) c.eval_call-in-Helper.ensures

pub eval-returns-in-Static : goal.eval-returns-in-Static
eval-returns-in-Static t c =
    IfOk-weaker c.eval_call-in-Static.result _ _ (λ v ev.
    static_as (seen c.args.self.now) c.args.width c.args.sets (log_of c.args.log.now) c.args.expr.now c.in-Static.method c.in-Static.args
    c.as_slice-in-Static.result.now
    c.as_slice-in-Static.ensures.items _ v c.in-Static.is ev) c.eval_call-in-Static.ensures

pub eval-returns-in-Some : goal.eval-returns-in-Some
eval-returns-in-Some t c =
    IfOk-weaker c.null_tested.result _ _ (λ v ev.
    test_as (seen c.args.self.now) c.args.width c.args.sets (log_of c.args.log.now) c.args.expr.now c.in-Binary.left c.in-Binary.right
    c.deref-in-Binary.result.now c.deref-in-Binary-2.result.now
    c.deref-in-Binary.ensures c.deref-in-Binary-2.ensures _ v c.in-Binary.op (test_of c.in-Some.test) c.in-Binary.is
    (sym (ap (option_map test_of) c.in-Some.is) ∙ c.null_test.ensures) ev) (c.null_tested.ensures (log_of c.args.log.now))

pub eval-returns-in_default : goal.eval-returns-in_default
eval-returns-in_default t c =
    IfOk-weaker c.eval_both.result _ _ (λ v ev.
    other_as (seen c.args.self.now) c.args.width c.args.sets (log_of c.args.log.now) c.args.expr.now c.in-Binary.left c.in-Binary.right
    c.deref-in_default.result.now c.deref-in_default-2.result.now
    c.deref-in_default.ensures c.deref-in_default-2.ensures _ v c.in-Binary.op c.in-Binary.is
    (sym (ap (option_map test_of) c.in-None.is) ∙ c.null_test.ensures
    ∙ ap (λ (z : CoreExpr). null_test c.in-Binary.op (expr_of z) (expr_of c.deref-in-Binary-2.result.now))
    (c.deref-in-Binary.ensures ∙ sym c.deref-in_default.ensures)
    ∙ ap (λ (z : CoreExpr). null_test c.in-Binary.op (expr_of c.deref-in_default.result.now) (expr_of z))
    (c.deref-in-Binary-2.ensures ∙ sym c.deref-in_default-2.ensures))
    c.in_default.not-And c.in_default.not-Or ev) c.eval_both.ensures

pub eval_past-returns : goal.eval_past-returns
eval_past-returns t c =
    IfOk-weaker c.after.result _ _ (λ n en.
    past_is (eval (seen c.args.self.now) 0 (expr_of c.args.expr.now) c.args.now (log_of c.args.log.now)) (log_of c.eval_now.new.log)
    c.in_ok-set.field-0 n c.in_ok-set.ensures en) c.after.ensures

pub eval_both-returns : goal.eval_both-returns
eval_both-returns t c =
    IfOk-weaker c.plain.result _ _ (λ v ev.
    operands_from (seen c.args.self.now) c.args.sets (log_of c.args.log.now) (expr_of c.args.left.now) (expr_of c.args.right.now)
    (log_of c.eval_past.new.log) (log_of c.eval_past-2.new.log) v c.in_ok-now.now c.in_ok-now.ensures
    (last_is (eval (seen c.args.self.now) 0 (expr_of c.args.right.now) c.in_ok-now.now (log_of c.eval_past.new.log))
    (log_of c.eval_past-2.new.log) v c.in_ok-behind.behind ev c.in_ok-behind.ensures)) c.plain.ensures

pub eval_ways-returns : goal.eval_ways-returns
eval_ways-returns t c =
    IfOk-two c.split.result _ _ _ (λ r ey en.
    ways_are (eval (seen c.args.self.now) 0 (expr_of c.args.expr.now) c.args.now (log_of c.args.log.now)) (log_of c.eval_now.new.log)
    c.in_ok-set.field-0 r.0 r.1 c.in_ok-set.ensures ey en) c.split.ensures.yes c.split.ensures.no

pub eval_not-returns : goal.eval_not-returns
eval_not-returns t c =
    IfOk-weaker c.apart.result _ _ (λ v ev.
    opposite_is (eval (seen c.args.self.now) 0 (expr_of c.args.inner.now) (Some c.args.sets) (log_of c.args.log.now))
    (log_of c.eval_ways.new.log) v c.in_ok-holds.holds c.in_ok-holds.fails c.in_ok-holds.ensures ev) c.apart.ensures

pub eval_and-returns : goal.eval_and-returns
eval_and-returns t c =
    IfOk-weaker c.apart.result _ _ (λ v ev.
    conjunction_from (seen c.args.self.now) c.args.sets (log_of c.args.log.now) (expr_of c.args.left.now) (expr_of c.args.right.now)
    (log_of c.eval_ways.new.log) (log_of c.eval_ways-2.new.log) v c.in_ok-holds.holds c.in_ok-holds.fails c.in_ok-holds.ensures
    (both_are (eval (seen c.args.self.now) 0 (expr_of c.args.right.now) c.in_ok-holds.holds (log_of c.eval_ways.new.log))
    (log_of c.eval_ways-2.new.log)
    v c.in_ok-both.both c.in_ok-both.neither c.in_ok-holds.fails c.in_ok-fails.fails c.in_ok-both.ensures c.in_ok-fails.ensures ev))
    c.apart.ensures

pub eval_or-returns : goal.eval_or-returns
eval_or-returns t c =
    IfOk-weaker c.apart.result _ _ (λ v ev.
    disjunction_from (seen c.args.self.now) c.args.sets (log_of c.args.log.now) (expr_of c.args.left.now) (expr_of c.args.right.now)
    (log_of c.eval_ways.new.log) (log_of c.eval_ways-2.new.log) v c.in_ok-holds.holds c.in_ok-holds.fails c.in_ok-holds.ensures
    (either_is (eval (seen c.args.self.now) 0 (expr_of c.args.right.now) c.in_ok-holds.fails (log_of c.eval_ways.new.log))
    (log_of c.eval_ways-2.new.log)
    v c.in_ok-either.either c.in_ok-either.neither c.in_ok-holds.holds c.in_ok-now.now c.in_ok-either.ensures c.in_ok-now.ensures
    ev)) c.apart.ensures

pub eval_session-returns : goal.eval_session-returns
eval_session-returns t c =
    IfOk-weaker c.plain.result _ _ (λ v ev.
    behind_is (seen c.args.self.now) c.args.sets (log_of c.args.log.now) (exprs_of (map expr_of c.args.args.now))
    (log_of c.eval_all.new.log) c.in_ok-given.field-0 v c.in_ok-given.ensures ev) c.plain.ensures

pub eval_call-returns-in-Protocol : goal.eval_call-returns-in-Protocol
eval_call-returns-in-Protocol t c =
    IfOk-weaker c.protocol_call.result _ _ (λ v ev.
    called_is (seen c.args.self.now) c.args.sets (log_of c.args.log.now) c.args.method
    (protocol_call (seen c.args.self.now) targets c.in-Protocol.receiver c.args.method) (exprs_of (map expr_of c.args.args.now))
    (method_of c.in-Some.called.now) (map (λ s. s.ty) c.params_of.result.now) (log_of c.eval_all.new.log) _ c.in_ok-args.args v
    (sym c.method_at.ensures.method ∙ ap (option_map (λ m. method_of m.now)) c.in-Some.is) c.params_of.ensures c.in_ok-args.ensures ev
    ∙ ap (λ (y : CallForm). called_as (seen c.args.self.now) y c.args.method (exprs_of (map expr_of c.args.args.now)) c.args.sets
    (log_of c.args.log.now)) (sym c.in-Protocol.is)) c.protocol_call.ensures

pub eval_call-returns-in-Helper : goal.eval_call-returns-in-Helper
eval_call-returns-in-Helper t c =
    IfOk-weaker c.helper_call.result _ _ (λ v ev.
    called_is (seen c.args.self.now) c.args.sets (log_of c.args.log.now) c.args.method
    (helper_call (seen c.args.self.now) c.args.method) (exprs_of (map expr_of c.args.args.now))
    (method_of c.in-Some.called.now) (map (λ s. s.ty) c.params_of.result.now) (log_of c.eval_all.new.log) _ c.in_ok-args.args v
    (sym c.method_at.ensures.method ∙ ap (option_map (λ m. method_of m.now)) c.in-Some.is) c.params_of.ensures c.in_ok-args.ensures ev
    ∙ ap (λ (y : CallForm). called_as (seen c.args.self.now) y c.args.method (exprs_of (map expr_of c.args.args.now)) c.args.sets
    (log_of c.args.log.now)) (sym c.in-Helper.is)) c.helper_call.ensures

pub eval_call-returns-in-Static : goal.eval_call-returns-in-Static
eval_call-returns-in-Static t c =
    IfOk-weaker c.static_call.result _ _ (λ v ev.
    called_is (seen c.args.self.now) c.args.sets (log_of c.args.log.now) c.args.method
    (static_call (seen c.args.self.now) c.args.method) (exprs_of (map expr_of c.args.args.now))
    (method_of c.in-Some.called.now) (map (λ s. s.ty) c.params_of.result.now) (log_of c.eval_all.new.log) _ c.in_ok-args.args v
    (sym c.method_at.ensures.method ∙ ap (option_map (λ m. method_of m.now)) c.in-Some.is) c.params_of.ensures c.in_ok-args.ensures ev
    ∙ ap (λ (y : CallForm). called_as (seen c.args.self.now) y c.args.method (exprs_of (map expr_of c.args.args.now)) c.args.sets
    (log_of c.args.log.now)) (sym c.in-Static.is)) c.static_call.ensures
