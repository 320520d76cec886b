-- The operands are the last cells.
use Rattle.vm_frames.proofs.States.{has_operand, operand_says, operand_set}
use Rattle.vm_frames.proofs.state.State.operand.Goals as goal

pub from_top-requires : goal.from_top-requires
from_top-requires c = has_operand c.self.inside c.args.self.now c.self.view_is c.self.invariant c.args.above c.requires

pub returns-clause-value : goal.returns-clause-value
returns-clause-value c =
    operand_says c.self.inside c.args.self.now c.self.view_is c.self.invariant c.args.above c.from_top.result c.requires c.from_top.ensures

pub returns-clause-set : goal.returns-clause-set
returns-clause-set c =
    operand_set c.self.inside c.args.self.now c.self.view_is c.self.invariant c.args.above c.from_top.result c.requires c.from_top.ensures
