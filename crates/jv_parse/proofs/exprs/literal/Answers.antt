use Rattle.std.proofs.Common.{arith, true, false, sym, ap, ◌∙◌}
use Rattle.jv_tree.proofs.ViewLaws.{views, expr_of-is, kind-Truth, kind-Null, kind-This}
use Rattle.jv_tree.specs.Depth.{depth}
use Rattle.jv_grammar.specs.Exprs.{literal}
use Rattle.jv_parse.proofs.exprs.literal.Goals as goal

pub returns-then-eq-clause-deep : goal.returns-then-eq-clause-deep
returns-then-eq-clause-deep c = sym (ap depth (expr_of-is _ ∙ kind-Truth true c.args.place))

pub returns-then-eq-2-clause-deep : goal.returns-then-eq-2-clause-deep
returns-then-eq-2-clause-deep c = sym (ap depth (expr_of-is _ ∙ kind-Truth false c.args.place))

pub returns-then-eq-3-clause-deep : goal.returns-then-eq-3-clause-deep
returns-then-eq-3-clause-deep c = sym (ap depth (expr_of-is _ ∙ kind-Null c.args.place))

pub returns-then-eq-4-clause-deep : goal.returns-then-eq-4-clause-deep
returns-then-eq-4-clause-deep c = sym (ap depth (expr_of-is _ ∙ kind-This c.args.place))

pub returns-then-eq-2-clause-read : goal.returns-then-eq-2-clause-read
unfolding literal
returns-then-eq-2-clause-read c = grind (arith, views)

pub returns-then-eq-3-clause-read : goal.returns-then-eq-3-clause-read
unfolding literal
returns-then-eq-3-clause-read c = grind (arith, views)

pub returns-then-eq-4-clause-read : goal.returns-then-eq-4-clause-read
unfolding literal
returns-then-eq-4-clause-read c = grind (arith, views)

pub returns-then-eq-clause-read : goal.returns-then-eq-clause-read
unfolding literal
returns-then-eq-clause-read c = grind (arith, views)

pub returns-clause-read : goal.returns-clause-read
unfolding literal
returns-clause-read c = grind (arith, views)
