use Rattle.std.proofs.Common.{◌+◌, ◌++◌, ◌∷◌, [], ◌∙◌, arith}
use Rattle.vm_model.specs.declared.value.Value.{Value}
use Rattle.vm_model.specs.Machine.{Machine}
use Rattle.vm_model.specs.Step.{at_place}
use Rattle.vm_frames.specs.Seen.{value_in}
use Rattle.vm_session.specs.State.{state_of}
use Rattle.vm_typed.proofs.Taken.{double_some, double_room, doubles}
use Rattle.vm_typed.proofs.within.double.Goals as goal

pub operand-cell-requires : goal.operand-cell-requires
operand-cell-requires c = double_some c.args.linked.now (state_of c.args.state.now) c.requires.next

pub push-requires-clause-room : goal.push-requires-clause-room
push-requires-clause-room c =
    let room = double_room c.args.linked.now (state_of c.args.state.now) c.requires.next in
    omega (arith, room, c.requires.room)

pub returns : goal.returns
returns c =
    let m : Machine = state_of c.args.state.now in
    let v : Value = value_in c.args.state.now.texts c.operand-cell.result in
    doubles c.args.linked.now m (state_of c.push.new.self) v c.requires.next c.operand-cell.ensures.value
    (c.push.ensures.machine ∙ (λ i. at_place m (c.place-place.ensures i + 1) (m.frame.operands ++ v ∷ [])))
