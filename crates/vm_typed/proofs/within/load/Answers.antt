use Rattle.std.proofs.Common.{◌+◌, ◌++◌, ◌∷◌, [], IsSome, slice_get, sym, ap, ◌∙◌, subst, arith}
use Rattle.vm_model.specs.declared.value.Value.{Value}
use Rattle.vm_model.specs.Machine.{Machine}
use Rattle.vm_model.specs.Step.{at_place}
use Rattle.vm_frames.specs.Seen.{value_in, held_in}
use Rattle.vm_session.specs.State.{state_of}
use Rattle.vm_actions.specs.Table.{sort_of}
use Rattle.vm_typed.proofs.Taken.{load_held, load_room, loads, is_there}
use Rattle.vm_typed.proofs.within.load.Goals as goal

pub local-cell-requires : goal.local-cell-requires
local-cell-requires c =
    let m : Machine = state_of c.args.state.now in
    let holds = load_held c.args.linked.now m (sort_of c.args.sort) c.args.local c.requires.next in
    subst (λ k. IsSome (held_in (slice_get m.frame.locals k))) (sym c.from.ensures) (is_there holds.1)

pub push-requires-clause-room : goal.push-requires-clause-room
push-requires-clause-room c =
    let room = load_room c.args.linked.now (state_of c.args.state.now) (sort_of c.args.sort) c.args.local c.requires.next in
    omega (arith, room, c.requires.room)

pub returns : goal.returns
returns c =
    let m : Machine = state_of c.args.state.now in
    let v : Value = value_in c.args.state.now.texts c.local-cell.result in
    loads c.args.linked.now m (state_of c.push.new.self) (sort_of c.args.sort) c.args.local v c.requires.next
    (c.local-cell.ensures.value ∙ ap (λ k. held_in (slice_get m.frame.locals k)) c.from.ensures)
    (c.push.ensures.machine ∙ (λ i. at_place m (c.place-place.ensures i + 1) (m.frame.operands ++ v ∷ [])))
