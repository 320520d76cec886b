use Rattle.std.proofs.Common.{◌+◌, ◌++◌, ◌∷◌, [], ◌∙◌, arith}
use Rattle.vm_model.specs.declared.value.Value.TheVariants as values
use Rattle.vm_model.specs.Machine.{Machine}
use Rattle.vm_model.specs.Step.{at_place}
use Rattle.vm_session.specs.State.{state_of}
use Rattle.vm_typed.proofs.Taken.{out_room, pushes_out}
use Rattle.vm_typed.proofs.within.push_out.Goals as goal

pub push-requires-clause-room : goal.push-requires-clause-room
push-requires-clause-room c =
    let room = out_room c.args.linked.now (state_of c.args.state.now) c.requires.next in
    omega (arith, room, c.requires.room)

pub returns : goal.returns
returns c =
    let m : Machine = state_of c.args.state.now in
    pushes_out c.args.linked.now m (state_of c.push.new.self) c.requires.next
    (c.push.ensures.machine ∙ (λ i. at_place m (c.place-place.ensures i + 1) (m.frame.operands ++ values.Out ∷ [])))
