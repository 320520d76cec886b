use Rattle.std.proofs.Common.{◌≡◌, ◌+◌, ap, ◌∙◌, arith}
use Rattle.vm_model.specs.declared.value.Value.{Value}
use Rattle.vm_model.specs.Machine.{Machine}
use Rattle.vm_model.specs.Tests.{below}
use Rattle.vm_model.specs.Step.{at_place, with_local}
use Rattle.vm_frames.specs.Seen.{value_in}
use Rattle.vm_session.specs.State.{state_of}
use Rattle.vm_actions.specs.Table.{sort_of}
use Rattle.vm_typed.proofs.Taken.{store_some, store_within, stores}
use Rattle.vm_typed.proofs.within.store.Goals as goal

pub operand-requires : goal.operand-requires
operand-requires c = store_some c.args.linked.now (state_of c.args.state.now) (sort_of c.args.sort) c.args.local c.requires.next

pub set_local-requires-clause-within : goal.set_local-requires-clause-within
set_local-requires-clause-within c =
    let within = store_within c.args.linked.now (state_of c.args.state.now) (sort_of c.args.sort) c.args.local c.requires.next in
    omega (arith, within, c.from.ensures)

pub returns : goal.returns
returns c =
    let m : Machine = state_of c.args.state.now in
    let says : Value = value_in c.args.state.now.texts c.operand.result in
    let stored : state_of c.set_local.new.self ≡ with_local m c.args.local says =
    c.set_local.ensures.machine ∙ (λ i. with_local m (c.from.ensures i) says) in
    stores c.args.linked.now m (state_of c.drop.new.self) (sort_of c.args.sort) c.args.local says c.requires.next c.operand.ensures.value
    (c.drop.ensures.machine
    ∙ (λ i. at_place (stored i) ((c.place-place.ensures ∙ ap (λ (n : Machine). n.frame.place) stored) i + 1)
    (below 1 (stored i).frame.operands)))
