use Rattle.std.proofs.Common.{◌≡◌, ◌+◌, ◌<◌, ◌++◌, ◌∷◌, [], length, sym, ◌∙◌, subst, arith}
use Rattle.vm_model.specs.declared.value.Value.{Value}
use Rattle.vm_model.specs.Machine.{Machine}
use Rattle.vm_model.specs.Tests.{below}
use Rattle.vm_model.specs.Step.{at_place, next}
use Rattle.vm_frames.specs.Kept.{most}
use Rattle.vm_frames.specs.Seen.{value_in}
use Rattle.vm_session.specs.State.{state_of}
use Rattle.vm_typed.proofs.Taken.{swap_some, swap_room, put_room, swaps}
use Rattle.vm_typed.proofs.within.swap.Goals as goal

pub operand-top-requires : goal.operand-top-requires
operand-top-requires c =
    let some = swap_some c.args.linked.now (state_of c.args.state.now) c.requires.next in
    omega (arith, some)

pub operand-under-requires : goal.operand-under-requires
operand-under-requires c = swap_some c.args.linked.now (state_of c.args.state.now) c.requires.next

pub put-requires-clause-within : goal.put-requires-clause-within
put-requires-clause-within c = swap_some c.args.linked.now (state_of c.args.state.now) c.requires.next

pub push-requires-clause-room : goal.push-requires-clause-room
push-requires-clause-room c =
    let m : Machine = state_of c.args.state.now in
    let some = swap_some c.args.linked.now m c.requires.next in
    let room = swap_room c.args.linked.now m c.requires.next in
    subst (λ (n : Machine). length n.frame.operands < most) (sym c.put.ensures.machine)
    (put_room m.frame.operands (value_in c.args.state.now.texts c.operand-top.result) most some (omega (arith, room, c.requires.room)))

pub returns : goal.returns
returns c =
    let m : Machine = state_of c.args.state.now in
    let v : Value = value_in c.args.state.now.texts c.operand-under.result in
    let w : Value = value_in c.args.state.now.texts c.operand-top.result in
    let put : state_of c.put.new.self ≡ next m (below 2 m.frame.operands ++ w ∷ []) =
    c.put.ensures.machine ∙ (λ i. at_place m (c.place-place.ensures i + 1) (below 2 m.frame.operands ++ w ∷ [])) in
    swaps c.args.linked.now m (state_of c.push.new.self) v w c.requires.next c.operand-under.ensures.value c.operand-top.ensures.value
    (c.push.ensures.machine ∙ (λ i. at_place (put i) (c.place-place.ensures i + 1)
    ((put i).frame.operands ++ value_in (c.put.ensures.texts i) c.operand-under.result ∷ [])))
