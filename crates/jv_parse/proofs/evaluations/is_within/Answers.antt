use Rattle.std.proofs.Common.{sym, ◌∙◌}
use Rattle.jv_tree.specs.View.{expr_of}
use Rattle.jv_parse.proofs.Evaluating.{within_leaf, within_call}
use Rattle.jv_parse.proofs.evaluations.is_within.Goals as goal

pub returns-then-is_leaf : goal.returns-then-is_leaf
returns-then-is_leaf c = within_leaf c.args.levels (expr_of c.args.value.now) (sym c.is_leaf.ensures ∙ c.if-is_leaf.true)

pub returns : goal.returns
returns c = within_call c.args.levels c.args.call (expr_of c.args.value.now) c.requires (sym c.is_leaf.ensures ∙ c.if-is_leaf.false)
