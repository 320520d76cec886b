use Rattle.std.proofs.Common.{◌≡◌, ◌+◌, arith, ap, ◌∙◌}
use Rattle.vm_model.specs.declared.value.Value.{Value}
use Rattle.vm_model.specs.Machine.{Machine}
use Rattle.vm_model.specs.Tests.{below}
use Rattle.vm_model.specs.Step.{at_place, with_local}
use Rattle.vm_frames.specs.Seen.{value_in}
use Rattle.vm_session.specs.State.{state_of}
use Rattle.vm_actions.specs.Table.{sort_of}
use Rattle.vm_step.proofs.Ready.{store_alone, when_true}
use Rattle.vm_step.proofs.frequent.store.Goals as goal

pub returns : goal.returns
returns c =
    let m : Machine = state_of c.args.state.now in
    let says : Value = value_in c.args.state.now.texts c.operand-cell.result in
    let stored : (state_of c.set_local.new.self) ≡ with_local m c.args.local says =
    c.set_local.ensures.machine ∙ (λ i. with_local m (c.from-local.ensures i) says) in
    store_alone c.args.max m (state_of c.drop.new.self) (omega arith) (sort_of c.args.sort) c.args.local says c.operand-cell.ensures.value
    (when_true c.is_of_sort.result c.if-not-is_of_sort.false c.is_of_sort.ensures c.args.state.now.texts) (omega arith) (omega arith)
    (c.drop.ensures.machine
    ∙ (λ i. at_place (stored i) ((c.place-place.ensures ∙ ap (λ (n : Machine). n.frame.place) stored) i + 1)
    (below 1 (stored i).frame.operands)))
