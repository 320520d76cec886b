use Rattle.jv_types.proofs.Mentioned.{arg_steps}
use Rattle.jv_types.proofs.Mentioned.{mentioned}
use Rattle.std.proofs.Common.{List, sym, ap, ◌∙◌, map, arith}
use Rattle.jv_tree.specs.declared.tree.Expr.{Expr}
use Rattle.jv_tree.specs.View.{expr_of, exprs_of}
use Rattle.jv_rules.specs.Members.{mentions_in, mentions_in_args}
use Rattle.jv_rules.specs.inner.Deciding.{first_by}
use Rattle.jv_types.specs.Tables.{program_in}
use Rattle.jv_types.specs.inner.Blaming.{blamed_of}
use Rattle.jv_types.specs.inner.Declaring.{unknown_class}
use Rattle.jv_types.proofs.Chains.{found_here, missed_here}
use Rattle.jv_types.proofs.Mentioned.{args-step, call-parts}
use Rattle.jv_types.proofs.mentions.+mentions.Goals as goal

pub unknown_in_args-returns-then-is_some : goal.unknown_in_args-returns-then-is_some
unknown_in_args-returns-then-is_some t c =
    found_here blamed_of c.unknown_in-found.result _ _ _ (args-step (unknown_class (program_in c.args.table.now)) c.args.args.now
    c.loop-item.item-index c.item-item.result c.loop-item-test.true c.item-item.is) c.unknown_in-found.ensures
    (sym c.if-is_some.true ∙ c.is_some.ensures) ∙ c.loop-item.invariant

pub unknown_in_args-loop-item-preserved : goal.unknown_in_args-loop-item-preserved
unknown_in_args-loop-item-preserved t c =
    sym (missed_here blamed_of c.unknown_in-found.result _ _ _ (args-step (unknown_class (program_in c.args.table.now)) c.args.args.now
    c.loop-item.item-index c.item-item.result c.loop-item-test.true c.item-item.is) c.unknown_in-found.ensures
    (sym c.if-is_some.false ∙ c.is_some.ensures)) ∙ c.loop-item.invariant

pub unknown_in-returns-else-is_some-2 : goal.unknown_in-returns-else-is_some-2
unknown_in-returns-else-is_some-2 t c =
    c.unknown_in_args-in-MethodCall.ensures
    ∙ ap (λ (l : List Expr). first_by (unknown_class (program_in c.args.table.now)) (mentions_in_args (exprs_of (map expr_of l))))
    c.as_slice-in-MethodCall.ensures.items
    ∙ sym (missed_here blamed_of c.unknown_in-found-in-MethodCall.result _ _ _
    (call-parts (unknown_class (program_in c.args.table.now)) c.args.expr.now c.in-MethodCall.of c.in-MethodCall.field-1
    c.in-MethodCall.args c.in-MethodCall.is)
    (c.unknown_in-found-in-MethodCall.ensures ∙ ap (λ (x : Expr). first_by (unknown_class (program_in c.args.table.now))
    (mentions_in (expr_of x))) c.deref-in-MethodCall.ensures)
    (sym c.if-is_some-2.false ∙ c.is_some-in-MethodCall.ensures))

pub unknown_in-returns-else-is_some : goal.unknown_in-returns-else-is_some
unknown_in-returns-else-is_some t c = grind (arith, mentioned)

pub unknown_in-returns-in-Call : goal.unknown_in-returns-in-Call
unknown_in-returns-in-Call t c = grind (arith, mentioned)

pub unknown_in-returns-in-Int : goal.unknown_in-returns-in-Int
unknown_in-returns-in-Int t c = grind (arith, mentioned)

pub unknown_in-returns-in-Member : goal.unknown_in-returns-in-Member
unknown_in-returns-in-Member t c = grind (arith, mentioned)

pub unknown_in-returns-in-Neg : goal.unknown_in-returns-in-Neg
unknown_in-returns-in-Neg t c = grind (arith, mentioned)

pub unknown_in-returns-in-New : goal.unknown_in-returns-in-New
unknown_in-returns-in-New t c = grind (arith, mentioned)

pub unknown_in-returns-in-Not : goal.unknown_in-returns-in-Not
unknown_in-returns-in-Not t c = grind (arith, mentioned)

pub unknown_in-returns-in-This : goal.unknown_in-returns-in-This
unknown_in-returns-in-This t c = grind (arith, mentioned)

pub unknown_in-returns-then-is_some : goal.unknown_in-returns-then-is_some
unknown_in-returns-then-is_some t c = grind (arith, mentioned)

pub unknown_in-returns-then-is_some-2 : goal.unknown_in-returns-then-is_some-2
unknown_in-returns-then-is_some-2 t c = grind (arith, mentioned)

pub unknown_in_args-returns : goal.unknown_in_args-returns
unknown_in_args-returns t c = grind (arith, arg_steps)
