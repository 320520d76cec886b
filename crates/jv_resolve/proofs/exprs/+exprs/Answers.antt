use Rattle.std.proofs.Common.{sym, ap, ◌∙◌, rules}
use Rattle.std.proofs.lemmas.Int.{to_z-of_z}
use Rattle.std.specs.Int.RustNames.{FitsSigned}
use mir.Syntax.{w32}
use Rattle.jv_core.specs.Tree as Core
use Rattle.jv_core.specs.declared.program.CoreType.TheVariants as types
use Rattle.std.specs.Prelude.{map, Some, option_map}
use Rattle.std.proofs.lemmas.Result.{err_from_is_err_and}
use Rattle.jv_tree.specs.View.{expr_of, exprs_of}
use Rattle.jv_core.specs.View.{expr_of as core_expr}
use Rattle.jv_core.proofs.ViewLaws.{kind-Neg, kind-Not}
use Rattle.jv_resolve_law.specs.Expressions.{OnValue, typed, resolved, resolved_all, receiver, member, call_own, call_on, make}
use Rattle.jv_resolve.specs.inner.HeadsSeen.{head_seen}
use Rattle.jv_resolve.specs.inner.Named.{variable_named, receiver_named}
use Rattle.jv_resolve.specs.inner.Seen.{tables_seen, standing_seen, resolved_seen, operand_seen}
use Rattle.jv_resolve.specs.inner.Receivers.{receiver_seen}
use Rattle.jv_tree.proofs.ViewLaws.{place-expr}
use Rattle.jv_resolve.proofs.ByHead.{receiver-this, receiver-name, receiver-other}
use Rattle.jv_resolve.proofs.Chains.{gives_as, fails_as, fails_map}
use Rattle.jv_resolve.proofs.ExprSteps as steps
use Rattle.jv_resolve.proofs.exprs.+exprs.Goals as goal

pub resolve_expr-returns-in-Int : goal.resolve_expr-returns-in-Int
resolve_expr-returns-in-Int t c =
    steps.is-Int (tables_seen c.args.scope.now.table.now) (standing_seen c.args.scope.now) c.args.locals.now c.args.expr.now
    (resolved_seen c.int.result) c.in-Int.value c.in-Int.is
    (c.int.ensures ∙ ap (λ z. typed (Core.Int c.args.expr.now.place z) types.Int)
    (to_z-of_z w32 c.in-Int.value (let f : FitsSigned w32 c.in-Int.value = search rules in f)))

pub resolve_expr-returns-in-Truth : goal.resolve_expr-returns-in-Truth
resolve_expr-returns-in-Truth t c =
    steps.is-Truth (tables_seen c.args.scope.now.table.now) (standing_seen c.args.scope.now) c.args.locals.now c.args.expr.now
    (resolved_seen c.truth.result) c.in-Truth.value c.in-Truth.is c.truth.ensures

pub resolve_expr-returns-in_ok-quoted-in-Text : goal.resolve_expr-returns-in_ok-quoted-in-Text
resolve_expr-returns-in_ok-quoted-in-Text t c =
    steps.is-Text (tables_seen c.args.scope.now.table.now) (standing_seen c.args.scope.now) c.args.locals.now c.args.expr.now
    (resolved_seen c.in_ok-quoted-in-Text.field-0) c.in-Text.text c.in-Text.is c.in_ok-quoted-in-Text.ensures

pub resolve_expr-returns-in-Null : goal.resolve_expr-returns-in-Null
resolve_expr-returns-in-Null t c =
    steps.is-Null (tables_seen c.args.scope.now.table.now) (standing_seen c.args.scope.now) c.args.locals.now c.args.expr.now
    (resolved_seen c.null.result) c.in-Null.is c.null.ensures

pub resolve_expr-returns-in-This : goal.resolve_expr-returns-in-This
resolve_expr-returns-in-This t c =
    steps.no-This (tables_seen c.args.scope.now.table.now) (standing_seen c.args.scope.now) c.args.locals.now c.args.expr.now c.in-This.is

pub resolve_expr-returns-in-Name : goal.resolve_expr-returns-in-Name
resolve_expr-returns-in-Name t c =
    gives_as resolved_seen c.variable.result _ _
    (steps.as-Name (tables_seen c.args.scope.now.table.now) (standing_seen c.args.scope.now) c.args.locals.now c.args.expr.now
    c.in-Name.name c.in-Name.is ∙ ap (variable_named (tables_seen c.args.scope.now.table.now) (standing_seen c.args.scope.now)
    c.args.locals.now c.args.expr.now.place) (sym c.as_str.ensures))
    c.variable.ensures

pub resolve_expr-returns-in-Member : goal.resolve_expr-returns-in-Member
resolve_expr-returns-in-Member t c =
    gives_as resolved_seen c.member.result _ _
    (steps.as-Member (tables_seen c.args.scope.now.table.now) (standing_seen c.args.scope.now) c.args.locals.now c.args.expr.now
    c.in-Member.of c.in-Member.name c.in-Member.is
    ∙ ap (λ y. member (tables_seen c.args.scope.now.table.now) (standing_seen c.args.scope.now) c.args.locals.now c.args.expr.now.place
    (expr_of y) c.in-Member.name) (sym c.deref.ensures)
    ∙ ap (member (tables_seen c.args.scope.now.table.now) (standing_seen c.args.scope.now) c.args.locals.now c.args.expr.now.place
    (expr_of c.deref.result.now)) (sym c.as_str-in-Member.ensures))
    c.member.ensures

pub resolve_expr-returns-in_err-inner-in-Neg : goal.resolve_expr-returns-in_err-inner-in-Neg
resolve_expr-returns-in_err-inner-in-Neg t c =
    let p = err_from_is_err_and c.from_residual-in_err-inner-in-Neg.result c.from_residual-in_err-inner-in-Neg.ensures.1 in
    rw (p.1, p.2) (steps.fails-Neg (tables_seen c.args.scope.now.table.now) (standing_seen c.args.scope.now) c.args.locals.now
    c.args.expr.now c.in_err-inner-in-Neg.field-0.0 c.in-Neg.of c.in-Neg.is
    (fails_as c.in_err-inner-in-Neg.field-0.0 _ _
    (ap (λ y. resolved (tables_seen c.args.scope.now.table.now) (standing_seen c.args.scope.now) c.args.locals.now (expr_of y))
    (sym c.deref-in-Neg.ensures)) c.in_err-inner-in-Neg.ensures))

pub resolve_expr-returns-in_ok-inner-in-Neg : goal.resolve_expr-returns-in_ok-inner-in-Neg
resolve_expr-returns-in_ok-inner-in-Neg t c =
    steps.is-Neg (tables_seen c.args.scope.now.table.now) (standing_seen c.args.scope.now) c.args.locals.now c.args.expr.now
    (resolved_seen c.typed.result) c.in-Neg.of (operand_seen c.in_ok-inner-in-Neg.inner)
    (ap (λ y. resolved (tables_seen c.args.scope.now.table.now) (standing_seen c.args.scope.now) c.args.locals.now (expr_of y))
    (sym c.deref-in-Neg.ensures) ∙ c.in_ok-inner-in-Neg.ensures)
    c.in-Neg.is (c.typed.ensures ∙ ap (λ e. typed e types.Int) (kind-Neg c.in_ok-inner-in-Neg.inner.expr c.args.expr.now.place))

pub resolve_expr-returns-in_err-inner-in-Not : goal.resolve_expr-returns-in_err-inner-in-Not
resolve_expr-returns-in_err-inner-in-Not t c =
    let p = err_from_is_err_and c.from_residual-in_err-inner-in-Not.result c.from_residual-in_err-inner-in-Not.ensures.1 in
    rw (p.1, p.2) (steps.fails-Not (tables_seen c.args.scope.now.table.now) (standing_seen c.args.scope.now) c.args.locals.now
    c.args.expr.now c.in_err-inner-in-Not.field-0.0 c.in-Not.of c.in-Not.is
    (fails_as c.in_err-inner-in-Not.field-0.0 _ _
    (ap (λ y. resolved (tables_seen c.args.scope.now.table.now) (standing_seen c.args.scope.now) c.args.locals.now (expr_of y))
    (sym c.deref-in-Not.ensures)) c.in_err-inner-in-Not.ensures))

pub resolve_expr-returns-in_ok-inner-in-Not : goal.resolve_expr-returns-in_ok-inner-in-Not
resolve_expr-returns-in_ok-inner-in-Not t c =
    steps.is-Not (tables_seen c.args.scope.now.table.now) (standing_seen c.args.scope.now) c.args.locals.now c.args.expr.now
    (resolved_seen c.typed-in-Not.result) c.in-Not.of (operand_seen c.in_ok-inner-in-Not.inner)
    (ap (λ y. resolved (tables_seen c.args.scope.now.table.now) (standing_seen c.args.scope.now) c.args.locals.now (expr_of y))
    (sym c.deref-in-Not.ensures) ∙ c.in_ok-inner-in-Not.ensures)
    c.in-Not.is (c.typed-in-Not.ensures ∙ ap (λ e. typed e types.Boolean) (kind-Not c.in_ok-inner-in-Not.inner.expr
    c.args.expr.now.place))

pub resolve_expr-returns-in_err-left-in-Binary : goal.resolve_expr-returns-in_err-left-in-Binary
resolve_expr-returns-in_err-left-in-Binary t c =
    let p = err_from_is_err_and c.from_residual-in_err-left-in-Binary.result c.from_residual-in_err-left-in-Binary.ensures.1 in
    rw (p.1, p.2) (steps.fails-left (tables_seen c.args.scope.now.table.now) (standing_seen c.args.scope.now) c.args.locals.now
    c.args.expr.now c.in_err-left-in-Binary.field-0.0 c.in-Binary.op c.in-Binary.left c.in-Binary.right c.in-Binary.is
    (fails_as c.in_err-left-in-Binary.field-0.0 _ _
    (ap (λ y. resolved (tables_seen c.args.scope.now.table.now) (standing_seen c.args.scope.now) c.args.locals.now (expr_of y))
    (sym c.deref-in-Binary.ensures)) c.in_err-left-in-Binary.ensures))

pub resolve_expr-returns-in_err-right-in-Binary : goal.resolve_expr-returns-in_err-right-in-Binary
resolve_expr-returns-in_err-right-in-Binary t c =
    let p = err_from_is_err_and c.from_residual-in_err-right-in-Binary.result c.from_residual-in_err-right-in-Binary.ensures.1 in
    rw (p.1, p.2) (steps.fails-right (tables_seen c.args.scope.now.table.now) (standing_seen c.args.scope.now) c.args.locals.now
    c.args.expr.now c.in_err-right-in-Binary.field-0.0 c.in-Binary.op c.in-Binary.left c.in-Binary.right
    (operand_seen c.in_ok-left-in-Binary.left) c.in-Binary.is
    (ap (λ y. resolved (tables_seen c.args.scope.now.table.now) (standing_seen c.args.scope.now) c.args.locals.now (expr_of y))
    (sym c.deref-in-Binary.ensures) ∙ c.in_ok-left-in-Binary.ensures)
    (fails_as c.in_err-right-in-Binary.field-0.0 _ _
    (ap (λ y. resolved (tables_seen c.args.scope.now.table.now) (standing_seen c.args.scope.now) c.args.locals.now (expr_of y))
    (sym c.deref-in-Binary-2.ensures)) c.in_err-right-in-Binary.ensures))

pub resolve_expr-returns-in_ok-right-in-Binary : goal.resolve_expr-returns-in_ok-right-in-Binary
resolve_expr-returns-in_ok-right-in-Binary t c =
    steps.is-Binary (tables_seen c.args.scope.now.table.now) (standing_seen c.args.scope.now) c.args.locals.now c.args.expr.now
    (resolved_seen c.binary.result) c.in-Binary.left (operand_seen c.in_ok-left-in-Binary.left)
    (ap (λ y. resolved (tables_seen c.args.scope.now.table.now) (standing_seen c.args.scope.now) c.args.locals.now (expr_of y))
    (sym c.deref-in-Binary.ensures) ∙ c.in_ok-left-in-Binary.ensures)
    c.in-Binary.right (operand_seen c.in_ok-right-in-Binary.right)
    (ap (λ y. resolved (tables_seen c.args.scope.now.table.now) (standing_seen c.args.scope.now) c.args.locals.now (expr_of y))
    (sym c.deref-in-Binary-2.ensures) ∙ c.in_ok-right-in-Binary.ensures)
    c.in-Binary.op c.in-Binary.is c.binary.ensures

pub resolve_expr-returns-in_err-args-in-Call : goal.resolve_expr-returns-in_err-args-in-Call
resolve_expr-returns-in_err-args-in-Call t c =
    let p = err_from_is_err_and c.from_residual-in_err-args-in-Call.result c.from_residual-in_err-args-in-Call.ensures.1 in
    rw (p.1, p.2) (steps.fails-Call (tables_seen c.args.scope.now.table.now) (standing_seen c.args.scope.now) c.args.locals.now
    c.args.expr.now c.in_err-args-in-Call.field-0.0 c.in-Call.name c.in-Call.args c.in-Call.is
    (fails_as c.in_err-args-in-Call.field-0.0 _ _
    (ap (λ ys. resolved_all (tables_seen c.args.scope.now.table.now) (standing_seen c.args.scope.now) c.args.locals.now
    (exprs_of (map expr_of ys))) (sym c.as_slice.ensures.items)) c.in_err-args-in-Call.ensures))

pub resolve_expr-returns-in_ok-args-in-Call : goal.resolve_expr-returns-in_ok-args-in-Call
resolve_expr-returns-in_ok-args-in-Call t c =
    gives_as resolved_seen c.call_own.result _ _
    (steps.as-Call (tables_seen c.args.scope.now.table.now) (standing_seen c.args.scope.now) c.args.locals.now c.args.expr.now
    c.in-Call.name c.in-Call.args (map core_expr c.in_ok-args-in-Call.args.items) c.in-Call.is
    (ap (λ ys. resolved_all (tables_seen c.args.scope.now.table.now) (standing_seen c.args.scope.now) c.args.locals.now
    (exprs_of (map expr_of ys))) (sym c.as_slice.ensures.items) ∙ c.in_ok-args-in-Call.ensures)
    ∙ ap (λ n. call_own (tables_seen c.args.scope.now.table.now) (standing_seen c.args.scope.now) c.args.expr.now.place n
    (map core_expr c.in_ok-args-in-Call.args.items)) (sym c.as_str-in-Call.ensures))
    c.call_own.ensures

pub resolve_expr-returns-in_err-receiver-in-MethodCall : goal.resolve_expr-returns-in_err-receiver-in-MethodCall
resolve_expr-returns-in_err-receiver-in-MethodCall t c =
    let p = err_from_is_err_and c.from_residual-in_err-receiver-in-MethodCall.result c.from_residual-in_err-receiver-in-MethodCall.ensures.1
    in
    rw (p.1, p.2) (steps.fails-receiver (tables_seen c.args.scope.now.table.now) (standing_seen c.args.scope.now) c.args.locals.now
    c.args.expr.now c.in_err-receiver-in-MethodCall.field-0.0 c.in-MethodCall.of c.in-MethodCall.name c.in-MethodCall.args
    c.in-MethodCall.is
    (fails_as c.in_err-receiver-in-MethodCall.field-0.0 _ _
    (ap (λ y. receiver (tables_seen c.args.scope.now.table.now) (standing_seen c.args.scope.now) c.args.locals.now (expr_of y)
    (resolved (tables_seen c.args.scope.now.table.now) (standing_seen c.args.scope.now) c.args.locals.now (expr_of y)))
    (sym c.deref-in-MethodCall.ensures)) c.in_err-receiver-in-MethodCall.ensures))

pub resolve_expr-returns-in_err-args-in-MethodCall : goal.resolve_expr-returns-in_err-args-in-MethodCall
resolve_expr-returns-in_err-args-in-MethodCall t c =
    let p = err_from_is_err_and c.from_residual-in_err-args-in-MethodCall.result c.from_residual-in_err-args-in-MethodCall.ensures.1 in
    rw (p.1, p.2) (steps.fails-args (tables_seen c.args.scope.now.table.now) (standing_seen c.args.scope.now) c.args.locals.now
    c.args.expr.now c.in_err-args-in-MethodCall.field-0.0 c.in-MethodCall.of c.in-MethodCall.name c.in-MethodCall.args
    (receiver_seen c.in_ok-receiver-in-MethodCall.receiver) c.in-MethodCall.is
    (ap (λ y. receiver (tables_seen c.args.scope.now.table.now) (standing_seen c.args.scope.now) c.args.locals.now (expr_of y)
    (resolved (tables_seen c.args.scope.now.table.now) (standing_seen c.args.scope.now) c.args.locals.now (expr_of y)))
    (sym c.deref-in-MethodCall.ensures) ∙ c.in_ok-receiver-in-MethodCall.ensures)
    (fails_as c.in_err-args-in-MethodCall.field-0.0 _ _
    (ap (λ ys. resolved_all (tables_seen c.args.scope.now.table.now) (standing_seen c.args.scope.now) c.args.locals.now
    (exprs_of (map expr_of ys))) (sym c.as_slice-in-MethodCall.ensures.items)) c.in_err-args-in-MethodCall.ensures))

pub resolve_expr-returns-in_ok-args-in-MethodCall : goal.resolve_expr-returns-in_ok-args-in-MethodCall
resolve_expr-returns-in_ok-args-in-MethodCall t c =
    gives_as resolved_seen c.call_on.result _ _
    (steps.as-MethodCall (tables_seen c.args.scope.now.table.now) (standing_seen c.args.scope.now) c.args.locals.now c.args.expr.now
    c.in-MethodCall.of c.in-MethodCall.name c.in-MethodCall.args (receiver_seen c.in_ok-receiver-in-MethodCall.receiver)
    (map core_expr c.in_ok-args-in-MethodCall.args.items) c.in-MethodCall.is
    (ap (λ y. receiver (tables_seen c.args.scope.now.table.now) (standing_seen c.args.scope.now) c.args.locals.now (expr_of y)
    (resolved (tables_seen c.args.scope.now.table.now) (standing_seen c.args.scope.now) c.args.locals.now (expr_of y)))
    (sym c.deref-in-MethodCall.ensures) ∙ c.in_ok-receiver-in-MethodCall.ensures)
    (ap (λ ys. resolved_all (tables_seen c.args.scope.now.table.now) (standing_seen c.args.scope.now) c.args.locals.now
    (exprs_of (map expr_of ys))) (sym c.as_slice-in-MethodCall.ensures.items) ∙ c.in_ok-args-in-MethodCall.ensures)
    ∙ ap (λ n. call_on (tables_seen c.args.scope.now.table.now) (standing_seen c.args.scope.now) c.args.expr.now.place
    (receiver_seen c.in_ok-receiver-in-MethodCall.receiver) n (map core_expr c.in_ok-args-in-MethodCall.args.items))
    (sym c.as_str-in-MethodCall.ensures))
    c.call_on.ensures

pub resolve_expr-returns-in-New : goal.resolve_expr-returns-in-New
resolve_expr-returns-in-New t c =
    gives_as resolved_seen c.new.result _ _ (steps.as-New (tables_seen c.args.scope.now.table.now) (standing_seen c.args.scope.now)
    c.args.locals.now c.args.expr.now c.in-New.name c.in-New.is ∙
    ap (make (tables_seen c.args.scope.now.table.now) (standing_seen c.args.scope.now) c.args.expr.now.place)
    (sym c.as_str-in-New.ensures)) c.new.ensures

pub resolve_receiver-returns-in-Name : goal.resolve_receiver-returns-in-Name
resolve_receiver-returns-in-Name t c =
    gives_as receiver_seen c.named_receiver.result _ _
    (receiver-name (tables_seen c.args.scope.now.table.now) (standing_seen c.args.scope.now) c.args.locals.now
    (resolved (tables_seen c.args.scope.now.table.now) (standing_seen c.args.scope.now) c.args.locals.now (expr_of c.args.of.now))
    (expr_of c.args.of.now) c.in-Name.name.now (sym c.head_of.ensures ∙ ap head_seen c.in-Name.is)
    ∙ ap (λ p. receiver_named (tables_seen c.args.scope.now.table.now) (standing_seen c.args.scope.now) c.args.locals.now p
    c.in-Name.name.now) (place-expr c.args.of.now))
    c.named_receiver.ensures

pub resolve_operand-returns-in_err-value : goal.resolve_operand-returns-in_err-value
resolve_operand-returns-in_err-value t c =
    let p = err_from_is_err_and c.from_residual.result c.from_residual.ensures.1 in
    rw (p.1, p.2) c.in_err-value.ensures

pub resolve_operand-returns : goal.resolve_operand-returns
resolve_operand-returns t c = c.in_ok-value.ensures ∙ ap Some (sym c.in_ok-as_operand.ensures)

pub resolve_receiver-returns-in-This : goal.resolve_receiver-returns-in-This
resolve_receiver-returns-in-This t c =
    receiver-this (tables_seen c.args.scope.now.table.now) (standing_seen c.args.scope.now) c.args.locals.now
    (resolved (tables_seen c.args.scope.now.table.now) (standing_seen c.args.scope.now) c.args.locals.now (expr_of c.args.of.now))
    (expr_of c.args.of.now) (sym c.head_of.ensures ∙ ap head_seen c.in-This.is)

pub resolve_receiver-returns-in_err-value-in-Other : goal.resolve_receiver-returns-in_err-value-in-Other
resolve_receiver-returns-in_err-value-in-Other t c =
    let p = err_from_is_err_and c.from_residual.result c.from_residual.ensures.1 in
    let r = resolved (tables_seen c.args.scope.now.table.now) (standing_seen c.args.scope.now) c.args.locals.now (expr_of c.args.of.now) in
    rw (p.1, p.2)
    (fails_as c.in_err-value-in-Other.field-0.0 _ _ (receiver-other (tables_seen c.args.scope.now.table.now)
    (standing_seen c.args.scope.now) c.args.locals.now r (expr_of c.args.of.now) (sym c.head_of.ensures ∙ ap head_seen c.in-Other.is))
    (fails_map c.in_err-value-in-Other.field-0.0 r OnValue c.in_err-value-in-Other.ensures))

pub resolve_receiver-returns-in_ok-value-in-Other : goal.resolve_receiver-returns-in_ok-value-in-Other
resolve_receiver-returns-in_ok-value-in-Other t c =
    receiver-other (tables_seen c.args.scope.now.table.now) (standing_seen c.args.scope.now) c.args.locals.now
    (resolved (tables_seen c.args.scope.now.table.now) (standing_seen c.args.scope.now) c.args.locals.now (expr_of c.args.of.now))
    (expr_of c.args.of.now) (sym c.head_of.ensures ∙ ap head_seen c.in-Other.is)
    ∙ ap (option_map OnValue) c.in_ok-value-in-Other.ensures
