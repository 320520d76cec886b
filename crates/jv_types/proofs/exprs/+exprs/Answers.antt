use Rattle.std.proofs.Common.{map, Some, Ok, Err, refl, sym, ap, subst, ◌∙◌}
use Rattle.std.proofs.lemmas.Result.{err_from_is_err_and}
use Rattle.mg_read.specs.Culprit.{culprit}
use Rattle.jv_tree.specs.Source.{Int, Truth, Text, Null, New}
use Rattle.jv_tree.specs.View.{expr_of, exprs_of}
use Rattle.jv_tree.proofs.ViewLaws.{place-expr, kind-Int, kind-Truth, kind-Text, kind-Null, kind-New}
use Rattle.jv_tree.specs.declared.tree.ExprKind.TheVariants as E
use Rattle.jv_rules.specs.declared.condition.Condition.TheVariants as conditions
use Rattle.jv_rules.specs.Types.{ClassType}
use Rattle.jv_types.specs.declared.value_type.ValueType.TheVariants as kept
use Rattle.jv_tree.specs.declared.tree.Expr.{Expr as KeptExpr}
use Rattle.jv_types.specs.inner.Judging.{IsChecked}
use Rattle.jv_types.specs.inner.Calls.{ReceiverIs}
use Rattle.jv_types.specs.inner.Scopes.{scope_seen}
use Rattle.jv_types.proofs.Checking.{neg_tells, not_tells, left_tells, right_tells}
use Rattle.jv_types.proofs.ExprSteps.{judged_as, plain_fine, left_start, index_wrong, index_more, index_done, this_fault}
use Rattle.jv_types.proofs.FormSteps.{name_as, member_as, neg_as, not_as, binary_as, call_as, method_call_as, member_tells, member_unknown}
use Rattle.jv_types.proofs.FormSteps.{call_tells, named_unknown, receiver_tells, args_tell}
use Rattle.jv_types.proofs.exprs.+exprs.Goals as goal

-- ---- arguments

pub check_args-loop-arg-init : goal.check_args-loop-arg-init
check_args-loop-arg-init t c = left_start (scope_seen c.args.scope.now c.args.locals.now) (exprs_of (map expr_of c.args.args.now))
    c.new-given.result c.new-given.ensures

pub check_args-returns-in_err-checked : goal.check_args-returns-in_err-checked
check_args-returns-in_err-checked t c =
    let r = err_from_is_err_and c.from_residual.result c.from_residual.ensures.1 in
    rw (r.1, r.2) (index_wrong (scope_seen c.args.scope.now c.args.locals.now) (exprs_of (map expr_of c.args.args.now)) c.args.args.now
    c.loop-arg.arg-index c.arg-item.result
    c.loop-arg-test.true c.arg-item.is c.loop-arg.given c.loop-arg.invariant c.in_err-checked.field-0.0 c.in_err-checked.ensures)

pub check_args-returns-in_err-add : goal.check_args-returns-in_err-add
check_args-returns-in_err-add t c =
    let r = err_from_is_err_and c.from_residual-in_err-add.result c.from_residual-in_err-add.ensures.1 in
    rw (r.1, r.2) tt

pub check_args-loop-arg-preserved : goal.check_args-loop-arg-preserved
check_args-loop-arg-preserved t c =
    index_more (scope_seen c.args.scope.now c.args.locals.now) (exprs_of (map expr_of c.args.args.now)) c.args.args.now c.loop-arg.arg-index
    c.arg-item.result
    c.loop-arg-test.true c.arg-item.is c.loop-arg.given c.loop-arg.invariant c.in_ok-checked.checked c.add.new.self c.in_ok-checked.ensures
    c.in_ok-add.ensures.types c.in_ok-add.ensures.helper

pub check_args-returns : goal.check_args-returns
check_args-returns t c =
    index_done (scope_seen c.args.scope.now c.args.locals.now) (exprs_of (map expr_of c.args.args.now)) c.args.args.now c.loop-arg.arg-index
    c.loop-arg.given c.loop-arg-test.false c.loop-arg.invariant

-- ---- members

pub check_member-returns-then-is_this : goal.check_member-returns-then-is_this
check_member-returns-then-is_this t c = c.end_own_member.ensures

pub check_member-returns-in-Some : goal.check_member-returns-in-Some
check_member-returns-in-Some t c = c.end_named_member.ensures

pub check_member-returns-in_err-check_expr : goal.check_member-returns-in_err-check_expr
check_member-returns-in_err-check_expr t c =
    let r = err_from_is_err_and c.from_residual.result c.from_residual.ensures.1 in
    rw (r.1, r.2)
    (member_tells (scope_seen c.args.scope.now c.args.locals.now) c.args.place c.args.name.now (expr_of c.args.of.now)
    (sym c.is_this.ensures ∙ c.if-is_this.false) c.in_default.ensures
    c.in_err-check_expr.field-0.0 c.in_err-check_expr.ensures)

pub check_member-returns : goal.check_member-returns
check_member-returns t c =
    member_unknown (scope_seen c.args.scope.now c.args.locals.now) c.args.place c.args.name.now (expr_of c.args.of.now)
    (sym c.is_this.ensures ∙ c.if-is_this.false) c.in_default.ensures
    c.in_ok-check_expr.ensures.fine

-- ---- calls

pub check_receiver-returns-then-is_this : goal.check_receiver-returns-then-is_this
check_receiver-returns-then-is_this t c = sym c.is_this.ensures ∙ c.if-is_this.true

pub check_receiver-returns-then-is_receiver : goal.check_receiver-returns-then-is_receiver
check_receiver-returns-then-is_receiver t c = (sym c.in-Some.ensures, sym c.is_receiver.ensures ∙ c.if-is_receiver.true)

pub check_receiver-returns-in-Some : goal.check_receiver-returns-in-Some
check_receiver-returns-in-Some t c = λ p n args.
    named_unknown (scope_seen c.args.scope.now c.args.locals.now) p n args (expr_of c.args.of.now) c.in-Some.x.now (sym c.in-Some.ensures)
    (sym c.is_receiver.ensures ∙ c.if-is_receiver.false)
    ∙ ap (λ q. Some (conditions.UnknownName, culprit q c.in-Some.x.now)) (place-expr c.args.of.now)

pub check_receiver-returns-in_err-inner : goal.check_receiver-returns-in_err-inner
check_receiver-returns-in_err-inner t c =
    let r = err_from_is_err_and c.from_residual.result c.from_residual.ensures.1 in
    rw (r.1, r.2) (λ p n args. receiver_tells (scope_seen c.args.scope.now c.args.locals.now) p n args (expr_of c.args.of.now)
    (sym c.is_this.ensures ∙ c.if-is_this.false) c.in_default.ensures
    c.in_err-inner.field-0.0 c.in_err-inner.ensures)

pub check_receiver-returns : goal.check_receiver-returns
check_receiver-returns t c = (sym c.is_this.ensures ∙ c.if-is_this.false, (sym c.in_default.ensures, c.in_ok-inner.ensures))

-- ---- every form

pub check_expr-returns-in-Int : goal.check_expr-returns-in-Int
check_expr-returns-in-Int t c =
    judged_as (scope_seen c.args.scope.now c.args.locals.now) c.args.expr.now (E.Int c.in-Int.field-0)
    (Int c.args.expr.now.place c.in-Int.field-0) (Ok c.plain.result) c.in-Int.is (kind-Int c.in-Int.field-0 c.args.expr.now.place)
    (plain_fine (scope_seen c.args.scope.now c.args.locals.now) (Int c.args.expr.now.place c.in-Int.field-0) c.plain.result kept.Int
    c.plain.ensures refl refl refl)

pub check_expr-returns-in-Truth : goal.check_expr-returns-in-Truth
check_expr-returns-in-Truth t c =
    judged_as (scope_seen c.args.scope.now c.args.locals.now) c.args.expr.now (E.Truth c.in-Truth.field-0)
    (Truth c.args.expr.now.place c.in-Truth.field-0) (Ok c.plain-in-Truth.result) c.in-Truth.is
    (kind-Truth c.in-Truth.field-0 c.args.expr.now.place)
    (plain_fine (scope_seen c.args.scope.now c.args.locals.now) (Truth c.args.expr.now.place c.in-Truth.field-0) c.plain-in-Truth.result
    kept.Boolean c.plain-in-Truth.ensures refl refl refl)

pub check_expr-returns-in-Text : goal.check_expr-returns-in-Text
check_expr-returns-in-Text t c =
    judged_as (scope_seen c.args.scope.now c.args.locals.now) c.args.expr.now (E.Text c.in-Text.field-0)
    (Text c.args.expr.now.place c.in-Text.field-0) (Ok c.plain-in-Text.result) c.in-Text.is
    (kind-Text c.in-Text.field-0 c.args.expr.now.place)
    (plain_fine (scope_seen c.args.scope.now c.args.locals.now) (Text c.args.expr.now.place c.in-Text.field-0) c.plain-in-Text.result
    kept.Text c.plain-in-Text.ensures refl refl refl)

pub check_expr-returns-in-Null : goal.check_expr-returns-in-Null
check_expr-returns-in-Null t c =
    judged_as (scope_seen c.args.scope.now c.args.locals.now) c.args.expr.now E.Null (Null c.args.expr.now.place)
    (Ok c.plain-in-Null.result) c.in-Null.is (kind-Null c.args.expr.now.place)
    (plain_fine (scope_seen c.args.scope.now c.args.locals.now) (Null c.args.expr.now.place) c.plain-in-Null.result kept.Null
    c.plain-in-Null.ensures refl refl refl)

pub check_expr-returns-in-This : goal.check_expr-returns-in-This
check_expr-returns-in-This t c = this_fault (scope_seen c.args.scope.now c.args.locals.now) c.args.expr.now c.in-This.is

pub check_expr-returns-in-Name : goal.check_expr-returns-in-Name
check_expr-returns-in-Name t c =
    name_as (scope_seen c.args.scope.now c.args.locals.now) c.args.expr.now c.end_name.result c.in-Name.name c.as_str.result.now
    c.in-Name.is c.as_str.ensures c.end_name.ensures

pub check_expr-returns-in-Member : goal.check_expr-returns-in-Member
check_expr-returns-in-Member t c =
    member_as (scope_seen c.args.scope.now c.args.locals.now) c.args.expr.now c.check_member.result c.in-Member.of c.in-Member.name
    c.deref.result.now c.as_str-in-Member.result.now c.in-Member.is
    c.deref.ensures c.as_str-in-Member.ensures c.check_member.ensures

pub check_expr-returns-in_err-inner-in-Neg : goal.check_expr-returns-in_err-inner-in-Neg
check_expr-returns-in_err-inner-in-Neg t c =
    let r = err_from_is_err_and c.from_residual.result c.from_residual.ensures.1 in
    let s = scope_seen c.args.scope.now c.args.locals.now in
    let of = c.deref-in-Neg.result.now in
    rw (r.1, r.2)
    (neg_as s c.args.expr.now (Err c.in_err-inner-in-Neg.field-0.0) c.in-Neg.of of c.in-Neg.is c.deref-in-Neg.ensures
    (neg_tells s c.args.expr.now.place (expr_of of) c.in_err-inner-in-Neg.field-0.0 c.in_err-inner-in-Neg.ensures))

pub check_expr-returns-in_ok-inner-in-Neg : goal.check_expr-returns-in_ok-inner-in-Neg
check_expr-returns-in_ok-inner-in-Neg t c =
    let s = scope_seen c.args.scope.now c.args.locals.now in
    neg_as s c.args.expr.now c.end_neg.result c.in-Neg.of c.deref-in-Neg-2.result.now c.in-Neg.is c.deref-in-Neg-2.ensures
    (c.end_neg.ensures s (subst (λ (z : KeptExpr). IsChecked s (expr_of z) c.in_ok-inner-in-Neg.inner)
    (c.deref-in-Neg.ensures ∙ sym c.deref-in-Neg-2.ensures) c.in_ok-inner-in-Neg.ensures))

pub check_expr-returns-in_err-inner-in-Not : goal.check_expr-returns-in_err-inner-in-Not
check_expr-returns-in_err-inner-in-Not t c =
    let r = err_from_is_err_and c.from_residual-in_err-inner-in-Not.result c.from_residual-in_err-inner-in-Not.ensures.1 in
    let s = scope_seen c.args.scope.now c.args.locals.now in
    let of = c.deref-in-Not.result.now in
    rw (r.1, r.2)
    (not_as s c.args.expr.now (Err c.in_err-inner-in-Not.field-0.0) c.in-Not.of of c.in-Not.is c.deref-in-Not.ensures
    (not_tells s c.args.expr.now.place (expr_of of) c.in_err-inner-in-Not.field-0.0 c.in_err-inner-in-Not.ensures))

pub check_expr-returns-in_ok-inner-in-Not : goal.check_expr-returns-in_ok-inner-in-Not
check_expr-returns-in_ok-inner-in-Not t c =
    let s = scope_seen c.args.scope.now c.args.locals.now in
    not_as s c.args.expr.now c.end_not.result c.in-Not.of c.deref-in-Not-2.result.now c.in-Not.is c.deref-in-Not-2.ensures
    (c.end_not.ensures s (subst (λ (z : KeptExpr). IsChecked s (expr_of z) c.in_ok-inner-in-Not.inner)
    (c.deref-in-Not.ensures ∙ sym c.deref-in-Not-2.ensures) c.in_ok-inner-in-Not.ensures))

pub check_expr-returns-in_err-one-in-Binary : goal.check_expr-returns-in_err-one-in-Binary
check_expr-returns-in_err-one-in-Binary t c =
    let r = err_from_is_err_and c.from_residual-in_err-one-in-Binary.result c.from_residual-in_err-one-in-Binary.ensures.1 in
    let l = c.deref-in-Binary.result.now in
    rw (r.1, r.2)
    (binary_as (scope_seen c.args.scope.now c.args.locals.now) c.args.expr.now (Err c.in_err-one-in-Binary.field-0.0) c.in-Binary.op
    c.in-Binary.left c.in-Binary.right l c.in-Binary.right.value c.in-Binary.is
    c.deref-in-Binary.ensures refl
    (left_tells (scope_seen c.args.scope.now c.args.locals.now) c.args.expr.now.place c.in-Binary.op (expr_of l)
    (expr_of c.in-Binary.right.value) c.in_err-one-in-Binary.field-0.0 c.in_err-one-in-Binary.ensures))

pub check_expr-returns-in_err-other-in-Binary : goal.check_expr-returns-in_err-other-in-Binary
check_expr-returns-in_err-other-in-Binary t c =
    let r = err_from_is_err_and c.from_residual-in_err-other-in-Binary.result c.from_residual-in_err-other-in-Binary.ensures.1 in
    let l = c.deref-in-Binary.result.now in
    let m = c.deref-in-Binary-2.result.now in
    rw (r.1, r.2)
    (binary_as (scope_seen c.args.scope.now c.args.locals.now) c.args.expr.now (Err c.in_err-other-in-Binary.field-0.0) c.in-Binary.op
    c.in-Binary.left c.in-Binary.right l m c.in-Binary.is
    c.deref-in-Binary.ensures c.deref-in-Binary-2.ensures
    (right_tells (scope_seen c.args.scope.now c.args.locals.now) c.args.expr.now.place c.in-Binary.op (expr_of l) (expr_of m)
    c.in_err-other-in-Binary.field-0.0 c.in_ok-one-in-Binary.one c.in_ok-one-in-Binary.ensures c.in_err-other-in-Binary.ensures))

pub check_expr-returns-in_ok-other-in-Binary : goal.check_expr-returns-in_ok-other-in-Binary
check_expr-returns-in_ok-other-in-Binary t c =
    let s = (scope_seen c.args.scope.now c.args.locals.now) in
    binary_as s c.args.expr.now c.end_binary.result c.in-Binary.op c.in-Binary.left c.in-Binary.right c.deref-in-Binary-3.result.now
    c.deref-in-Binary-4.result.now c.in-Binary.is
    c.deref-in-Binary-3.ensures c.deref-in-Binary-4.ensures
    (c.end_binary.ensures s
    (subst (λ (z : KeptExpr). IsChecked s (expr_of z) c.in_ok-one-in-Binary.one)
    (c.deref-in-Binary.ensures ∙ sym c.deref-in-Binary-3.ensures) c.in_ok-one-in-Binary.ensures)
    (subst (λ (z : KeptExpr). IsChecked s (expr_of z) c.in_ok-other-in-Binary.other)
    (c.deref-in-Binary-2.ensures ∙ sym c.deref-in-Binary-4.ensures) c.in_ok-other-in-Binary.ensures))

pub check_expr-returns-in_err-given-in-Call : goal.check_expr-returns-in_err-given-in-Call
check_expr-returns-in_err-given-in-Call t c =
    let r = err_from_is_err_and c.from_residual-in_err-given-in-Call.result c.from_residual-in_err-given-in-Call.ensures.1 in
    let s = scope_seen c.args.scope.now c.args.locals.now in
    let given = c.as_slice-args.result.now in
    rw (r.1, r.2)
    (call_as s c.args.expr.now (Err c.in_err-given-in-Call.field-0.0) c.in-Call.name c.in-Call.args c.in-Call.name given c.in-Call.is refl
    c.as_slice-args.ensures.items
    (call_tells s c.args.expr.now.place c.in-Call.name (exprs_of (map expr_of given)) c.in_err-given-in-Call.field-0.0
    c.in_err-given-in-Call.ensures))

pub check_expr-returns-in_ok-given-in-Call : goal.check_expr-returns-in_ok-given-in-Call
check_expr-returns-in_ok-given-in-Call t c =
    call_as (scope_seen c.args.scope.now c.args.locals.now) c.args.expr.now c.end_call.result c.in-Call.name c.in-Call.args
    c.as_str-in-Call.result.now c.as_slice-args.result.now c.in-Call.is
    c.as_str-in-Call.ensures c.as_slice-args.ensures.items c.end_call.ensures

pub check_expr-returns-in_err-receiver-in-MethodCall : goal.check_expr-returns-in_err-receiver-in-MethodCall
check_expr-returns-in_err-receiver-in-MethodCall t c =
    let r = err_from_is_err_and c.from_residual-in_err-receiver-in-MethodCall.result c.from_residual-in_err-receiver-in-MethodCall.ensures.1
    in
    let given = c.in-MethodCall.args.items in
    rw (r.1, r.2)
    (method_call_as (scope_seen c.args.scope.now c.args.locals.now) c.args.expr.now (Err c.in_err-receiver-in-MethodCall.field-0.0)
    c.in-MethodCall.of c.in-MethodCall.name c.in-MethodCall.args
    c.deref-in-MethodCall.result.now c.in-MethodCall.name given c.in-MethodCall.is c.deref-in-MethodCall.ensures refl refl
    (c.in_err-receiver-in-MethodCall.ensures c.args.expr.now.place c.in-MethodCall.name (exprs_of (map expr_of given))))

pub check_expr-returns-in_err-given-in-MethodCall : goal.check_expr-returns-in_err-given-in-MethodCall
check_expr-returns-in_err-given-in-MethodCall t c =
    let r = err_from_is_err_and c.from_residual-in_err-given-in-MethodCall.result c.from_residual-in_err-given-in-MethodCall.ensures.1 in
    let s = (scope_seen c.args.scope.now c.args.locals.now) in
    let of = c.deref-in-MethodCall.result.now in
    let given = c.as_slice-args-in-MethodCall.result.now in
    rw (r.1, r.2)
    (method_call_as s c.args.expr.now (Err c.in_err-given-in-MethodCall.field-0.0) c.in-MethodCall.of c.in-MethodCall.name
    c.in-MethodCall.args of c.in-MethodCall.name given
    c.in-MethodCall.is c.deref-in-MethodCall.ensures refl c.as_slice-args-in-MethodCall.ensures.items
    (args_tell s c.args.expr.now.place c.in-MethodCall.name (exprs_of (map expr_of given)) (expr_of of)
    c.in_ok-receiver-in-MethodCall.receiver c.in_ok-receiver-in-MethodCall.ensures
    c.in_err-given-in-MethodCall.field-0.0 c.in_err-given-in-MethodCall.ensures))

pub check_expr-end_method_call-requires-clause-receiver : goal.check_expr-end_method_call-requires-clause-receiver
check_expr-end_method_call-requires-clause-receiver t c =
    subst (λ (z : KeptExpr). ReceiverIs (scope_seen c.args.scope.now c.args.locals.now) (expr_of z) c.in_ok-receiver-in-MethodCall.receiver)
    (c.deref-in-MethodCall.ensures ∙ sym c.deref-in-MethodCall-2.ensures) c.in_ok-receiver-in-MethodCall.ensures

pub check_expr-returns-in_ok-given-in-MethodCall : goal.check_expr-returns-in_ok-given-in-MethodCall
check_expr-returns-in_ok-given-in-MethodCall t c =
    method_call_as (scope_seen c.args.scope.now c.args.locals.now) c.args.expr.now c.end_method_call.result c.in-MethodCall.of
    c.in-MethodCall.name c.in-MethodCall.args
    c.deref-in-MethodCall-2.result.now c.as_str-in-MethodCall.result.now c.as_slice-args-in-MethodCall.result.now c.in-MethodCall.is
    c.deref-in-MethodCall-2.ensures c.as_str-in-MethodCall.ensures c.as_slice-args-in-MethodCall.ensures.items c.end_method_call.ensures

pub check_expr-returns-in-New : goal.check_expr-returns-in-New
check_expr-returns-in-New t c =
    judged_as (scope_seen c.args.scope.now c.args.locals.now) c.args.expr.now (E.New c.in-New.class)
    (New c.args.expr.now.place c.in-New.class) (Ok c.plain-in-New.result) c.in-New.is (kind-New c.in-New.class c.args.expr.now.place)
    (plain_fine (scope_seen c.args.scope.now c.args.locals.now) (New c.args.expr.now.place c.in-New.class) c.plain-in-New.result
    (kept.Class c.as_str-in-New.result) c.plain-in-New.ensures refl
    (ap (λ n. Some (ClassType n)) (sym c.as_str-in-New.ensures)) refl)
