use Rattle.std.proofs.Common.{sym, ◌∙◌}
use Rattle.scr_tree.specs.View.{statements}
use Rattle.scr_same.proofs.Decided.{true_same, same_true}
use Rattle.scr_same.proofs.are_same.Goals as goal

pub returns : goal.returns
returns c = (
  λ e. true_same (statements c.args.some.now) (statements c.args.others.now) (sym c.same_all.ensures ∙ e),
  λ h. c.same_all.ensures ∙ same_true (statements c.args.some.now) (statements c.args.others.now) h,
)
