use Rattle.gen_expressions.proofs.Seen.{seen}
use Rattle.gen_symbolic.proofs.Framing.{comparisons}
use Rattle.std.proofs.Common.{◌≡◌, ap, ◌∙◌, arith, drop, map}
use Rattle.jv_core.specs.View.{expr_of, exprs_of}
use Rattle.gen_rules.specs.Frames.{depth_of_arguments}
use Rattle.gen_expressions.specs.Held.{method_in}
use Rattle.gen_symbolic.proofs.frames.+depths.Goals as goal

pub arguments_depth-returns : goal.arguments_depth-returns
arguments_depth-returns t c =
    let s = c.args.coder.now in
    let none : c.loop-left.left ≡ 0 = omega arith in
    c.loop-left.invariant.depth ∙ ap (λ k. depth_of_arguments s.core.now (method_in s)
    (exprs_of (map expr_of (drop k c.args.args.now)))) none

pub comparison_depths-returns-then-is_null-2 : goal.comparison_depths-returns-then-is_null-2
comparison_depths-returns-then-is_null-2 t c = grind (arith, comparisons)

pub expression_depths-returns-in-Binary : goal.expression_depths-returns-in-Binary
expression_depths-returns-in-Binary t c = grind (arith, seen)

pub expression_depths-returns-in-Concat : goal.expression_depths-returns-in-Concat
expression_depths-returns-in-Concat t c = grind (arith, seen)

pub expression_depths-returns-in-Constant : goal.expression_depths-returns-in-Constant
expression_depths-returns-in-Constant t c = grind (arith, seen)

pub expression_depths-returns-in-Equals : goal.expression_depths-returns-in-Equals
expression_depths-returns-in-Equals t c = grind (arith, seen)

pub expression_depths-returns-in-Helper : goal.expression_depths-returns-in-Helper
expression_depths-returns-in-Helper t c = grind (arith, seen)

pub expression_depths-returns-in-Int : goal.expression_depths-returns-in-Int
expression_depths-returns-in-Int t c = grind (arith, seen)

pub expression_depths-returns-in-New : goal.expression_depths-returns-in-New
expression_depths-returns-in-New t c = grind (arith, seen)

pub expression_depths-returns-in-Null : goal.expression_depths-returns-in-Null
expression_depths-returns-in-Null t c = grind (arith, seen)

pub expression_depths-returns-in-Protocol : goal.expression_depths-returns-in-Protocol
expression_depths-returns-in-Protocol t c = grind (arith, seen)

pub expression_depths-returns-in-Session : goal.expression_depths-returns-in-Session
expression_depths-returns-in-Session t c = grind (arith, seen)

pub expression_depths-returns-in-Static : goal.expression_depths-returns-in-Static
expression_depths-returns-in-Static t c = grind (arith, seen)

pub expression_depths-returns-in-Truth : goal.expression_depths-returns-in-Truth
expression_depths-returns-in-Truth t c = grind (arith, seen)

pub expression_depths-returns-in_ok-inner-in-Neg : goal.expression_depths-returns-in_ok-inner-in-Neg
expression_depths-returns-in_ok-inner-in-Neg t c = grind (arith, seen)

pub expression_depths-returns-in_ok-inner-in-Not : goal.expression_depths-returns-in_ok-inner-in-Not
expression_depths-returns-in_ok-inner-in-Not t c = grind (arith, seen)
