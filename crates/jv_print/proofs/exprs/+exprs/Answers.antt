use Rattle.std.proofs.Common.{arith, ◌++◌, [], ◌∷◌, ◌∙◌, ap, refl, string_bytes}
use Rattle.jv_print.proofs.Laid.{arg_steps, laid}
use Rattle.std.proofs.lemmas.Result.{on_ok_weaker}
use Rattle.jv_tree.specs.declared.tree.Expr.{Expr}
use Rattle.jv_tree.specs.View.{expr_of}
use Rattle.jv_print.specs.Layout.{expr_text, within, is_apart}
use Rattle.jv_print.proofs.Joins.{called_joined}
use Rattle.jv_print.proofs.exprs.+exprs.Goals as goal

pub put_expr-returns-in_ok-put-in-MethodCall : goal.put_expr-returns-in_ok-put-in-MethodCall
put_expr-returns-in_ok-put-in-MethodCall n c =
    on_ok_weaker c.put_call-in-MethodCall.result (λ e. called_joined c.args.expr.now c.in-MethodCall.of c.in-MethodCall.name
    c.in-MethodCall.args (string_bytes c.args.out.now)
    (string_bytes c.put_within-in-MethodCall.new.out)
    (string_bytes c.put-in-MethodCall.new.out) (string_bytes c.put_call-in-MethodCall.new.out) c.as_str-in-MethodCall.result.now
    c.as_slice-in-MethodCall.result.now c.is_apart-in-MethodCall.result
    c.in-MethodCall.is c.as_str-in-MethodCall.ensures c.as_slice-in-MethodCall.ensures.items
    (c.is_apart-in-MethodCall.ensures ∙ ap (λ (x : Expr). is_apart (expr_of x)) c.deref-in-MethodCall.ensures)
    (c.in_ok-put_within-in-MethodCall.ensures
    ∙ ap (λ (x : Expr). string_bytes c.args.out.now ++ within c.is_apart-in-MethodCall.result (expr_text (expr_of x)))
    c.deref-in-MethodCall-2.ensures)
    c.in_ok-put-in-MethodCall.ensures e) c.put_call-in-MethodCall.ensures

pub put_args-loop-arg-preserved : goal.put_args-loop-arg-preserved
unfolding lib.Utf8.encode
put_args-loop-arg-preserved t c = ((44 ∷ 32 ∷ [], (refl, refl)), grind (arith, arg_steps))

pub put_args-returns : goal.put_args-returns
put_args-returns t c = grind (arith, arg_steps)

pub put_call-returns : goal.put_call-returns
put_call-returns t c = grind (arith, laid)

pub put_expr-returns-in-Call : goal.put_expr-returns-in-Call
put_expr-returns-in-Call t c = grind (arith, laid)

pub put_expr-returns-in-Int : goal.put_expr-returns-in-Int
put_expr-returns-in-Int t c = grind (arith, laid)

pub put_expr-returns-in-Name : goal.put_expr-returns-in-Name
put_expr-returns-in-Name t c = grind (arith, laid)

pub put_expr-returns-in-New : goal.put_expr-returns-in-New
put_expr-returns-in-New t c = grind (arith, laid)

pub put_expr-returns-in-Null : goal.put_expr-returns-in-Null
put_expr-returns-in-Null t c = grind (arith, laid)

pub put_expr-returns-in-Text : goal.put_expr-returns-in-Text
put_expr-returns-in-Text t c = grind (arith, laid)

pub put_expr-returns-in-This : goal.put_expr-returns-in-This
put_expr-returns-in-This t c = grind (arith, laid)

pub put_expr-returns-in-Truth : goal.put_expr-returns-in-Truth
put_expr-returns-in-Truth t c = grind (arith, laid)

pub put_expr-returns-in_ok-put-in-Binary : goal.put_expr-returns-in_ok-put-in-Binary
put_expr-returns-in_ok-put-in-Binary t c = grind (arith, laid)

pub put_expr-returns-in_ok-put-in-Neg : goal.put_expr-returns-in_ok-put-in-Neg
put_expr-returns-in_ok-put-in-Neg t c = grind (arith, laid)

pub put_expr-returns-in_ok-put-in-Not : goal.put_expr-returns-in_ok-put-in-Not
put_expr-returns-in_ok-put-in-Not t c = grind (arith, laid)

pub put_expr-returns-in_ok-put_within-in-Member : goal.put_expr-returns-in_ok-put_within-in-Member
put_expr-returns-in_ok-put_within-in-Member t c = grind (arith, laid)

pub put_within-returns : goal.put_within-returns
put_within-returns t c = grind (arith, laid)
