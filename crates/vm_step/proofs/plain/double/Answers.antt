use Rattle.std.proofs.Common.{◌+◌, ◌++◌, ◌∷◌, [], ◌∙◌, refl}
use Rattle.vm_model.specs.Step.{at_place}
use Rattle.vm_frames.specs.Seen.{value_in}
use Rattle.vm_session.specs.State.{state_of, operands_of}
use Rattle.vm_step.proofs.Tops.{doubles}
use Rattle.vm_step.proofs.plain.double.Goals as goal

pub returns : goal.returns
returns c =
    let m = state_of c.args.state.now in
    let v = value_in c.args.state.now.texts c.operand-cell.result in λ q.
    doubles q m (state_of c.push.new.self) (operands_of c.args.state.now) v v c.operand-cell.ensures.value refl
    (c.push.ensures.machine ∙ (λ i. at_place m (c.place-place.ensures i + 1) (m.frame.operands ++ v ∷ [])))
