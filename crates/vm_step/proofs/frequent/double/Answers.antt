use Rattle.std.proofs.Common.{arith, refl}
use Rattle.vm_model.specs.declared.value.Value.{Value}
use Rattle.vm_model.specs.Actions.{Double}
use Rattle.vm_frames.specs.Seen.{value_in}
use Rattle.vm_session.specs.State.{state_of}
use Rattle.vm_step.proofs.Ready.{alone_if, double_alone}
use Rattle.vm_step.proofs.frequent.double.Goals as goal

pub returns : goal.returns
returns c =
    let says : Value = value_in c.args.state.now.texts c.operand-cell.result in
    alone_if c.args.max Double (state_of c.args.state.now)
    (state_of c.push.new.state) c.push.result c.push.ensures.room c.push.ensures.yes c.push.ensures.no
    (λ room is. double_alone c.args.max (state_of c.args.state.now) (state_of c.push.new.state)
    (omega arith) says says c.operand-cell.ensures.value refl room is)
