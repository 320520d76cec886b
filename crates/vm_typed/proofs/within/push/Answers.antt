use Rattle.std.proofs.Common.{◌+◌, ◌++◌, ◌∷◌, [], ◌∙◌, arith}
use Rattle.vm_model.specs.declared.value.Value.{Value}
use Rattle.vm_model.specs.Machine.{Machine}
use Rattle.vm_model.specs.Step.{at_place}
use Rattle.vm_frames.specs.Seen.{value_in}
use Rattle.vm_session.specs.State.{state_of}
use Rattle.vm_typed.proofs.Taken.{push_room, pushes}
use Rattle.vm_typed.proofs.within.push.Goals as goal

pub push-requires-clause-room : goal.push-requires-clause-room
push-requires-clause-room c =
    let v : Value = value_in c.args.state.now.texts c.args.cell in
    let room = push_room c.args.linked.now (state_of c.args.state.now) v c.requires.next in
    omega (arith, room, c.requires.room)

pub returns : goal.returns
returns c =
    let m : Machine = state_of c.args.state.now in
    let v : Value = value_in c.args.state.now.texts c.args.cell in
    pushes c.args.linked.now m (state_of c.push.new.self) v c.requires.next
    (c.push.ensures.machine ∙ (λ i. at_place m (c.place-place.ensures i + 1) (m.frame.operands ++ v ∷ [])))
