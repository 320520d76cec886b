use Rattle.std.proofs.Common.{◌∙◌}
use Rattle.std.proofs.lemmas.Int.{wrapping_neg_is, to_z-of_z}
use mir.Syntax.{w32}
use Rattle.vm_actions.proofs.arithmetic.negated.Goals as goal

pub returns : goal.returns
returns c =
    to_z-of_z w32 c.wrapping_neg.result (record { sfits = c.wrapping_neg.type_inv })
    ∙ (simp (to_z-of_z w32 c.args.x c.ranges.x) at c.wrapping_neg.ensures)
    ∙ wrapping_neg_is w32 c.args.x c.ranges.x
