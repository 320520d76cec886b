use Rattle.std.proofs.Common.{sym}
use Rattle.vm_model.specs.View.{instr_of}
use Rattle.vm_session.specs.State.{state_of}
use Rattle.vm_actions.specs.Table.{action_of}
use Rattle.vm_step.proofs.Rightly.{right_next}
use Rattle.vm_step.proofs.step_typed.take_typed_step.Goals as goal

pub act_right-requires-clause-right : goal.act_right-requires-clause-right
act_right-requires-clause-right c =
    right_next c.args.linked.now c.requires.typable (state_of c.args.state.now) c.requires.sound (instr_of c.in-Some.instr.now)
    (action_of c.in-Some-action_of.action) (sym (rw c.in-Some.is at c.next_instr.ensures.value))
    (sym (rw c.in-Some-action_of.is at c.action_of.ensures))
