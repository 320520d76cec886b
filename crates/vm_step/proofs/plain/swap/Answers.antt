use Rattle.std.proofs.Common.{arith, ◌+◌, ◌++◌, ◌∷◌, [], ◌∙◌}
use Rattle.std.proofs.lemmas.Grind.{common_steps}
use Rattle.vm_model.specs.Machine.{Machine}
use Rattle.vm_model.specs.Step.{at_place}
use Rattle.vm_frames.specs.Seen.{value_in}
use Rattle.vm_session.specs.State.{state_of, operands_of}
use Rattle.vm_step.proofs.Tops.{swaps}
use Rattle.vm_step.proofs.plain.swap.Goals as goal

pub returns : goal.returns
returns c =
    let m : Machine = state_of c.args.state.now in
    let w = value_in c.args.state.now.texts c.operand-top.result in
    let v = value_in c.args.state.now.texts c.operand-under.result in
    λ q. swaps q m (state_of c.push.new.self) (operands_of c.args.state.now) v w c.operand-under.ensures.value c.operand-top.ensures.value
    (c.push.ensures.machine
    ∙ (λ i. at_place (c.put.ensures.machine i) (c.place-place.ensures i + 1)
    ((c.put.ensures.machine i).frame.operands ++ value_in (c.put.ensures.texts i) c.operand-under.result ∷ [])))

pub push-requires-clause-room : goal.push-requires-clause-room
push-requires-clause-room c = grind (arith, common_steps)
