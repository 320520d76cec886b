use Rattle.std.proofs.Common.{ap}
use Rattle.std.specs.Prelude.{Some}
use Rattle.std.proofs.lemmas.Int.{wrapping_add_is, wrapping_sub_is}
use mir.Syntax.{w32}
use Rattle.vm_actions.proofs.arithmetic.computed.Goals as goal

pub returns-in-Plus : goal.returns-in-Plus
returns-in-Plus c = rw c.in-Plus.is (ap Some (wrapping_add_is w32 c.args.x c.args.y c.ranges.x c.ranges.y))

pub returns-in-Minus : goal.returns-in-Minus
returns-in-Minus c = rw c.in-Minus.is (ap Some (wrapping_sub_is w32 c.args.x c.args.y c.ranges.x c.ranges.y))
