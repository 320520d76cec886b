use Rattle.std.proofs.Common.{◌≡◌, ◌∙◌, ap, pos, false, Some}
use Rattle.std.proofs.lemmas.Int.{to_z-of_z}
use Rattle.vm_model.specs.Arithmetic.{int_same}
use Rattle.vm_actions.proofs.Ints.{quotient_wraps, nonzero}
use mir.Syntax.{w32}
use Rattle.vm_actions.proofs.arithmetic.quotient.Goals as goal

pub returns : goal.returns
returns c =
    let tested : int_same c.args.y (pos 0) ≡ false = nonzero c.args.y c.ranges.y c.if-y-eq0.false in
    rw tested
    (ap Some
    (to_z-of_z w32 c.wrapping_div.result (record { sfits = c.wrapping_div.type_inv })
    ∙ (simp (to_z-of_z w32 c.args.x c.ranges.x, to_z-of_z w32 c.args.y c.ranges.y) at c.wrapping_div.ensures)
    ∙ quotient_wraps c.args.x c.args.y c.ranges.x))
