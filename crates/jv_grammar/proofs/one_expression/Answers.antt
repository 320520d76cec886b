use Rattle.jv_grammar.proofs.Exprs.{expr_unique}
use Rattle.jv_grammar.proofs.one_expression.Goals as goal

pub returns : goal.returns
returns c = expr_unique
