use Rattle.std.proofs.Common.{◌+◌, Bool, ap, ◌∙◌}
use Rattle.std.specs.Prelude.{if◌then◌else◌}
use Rattle.vm_model.specs.declared.value.Value.{Value}
use Rattle.vm_model.specs.Machine.{Machine}
use Rattle.vm_model.specs.Step.{same_truth}
use Rattle.vm_frames.specs.Seen.{value_in}
use Rattle.vm_session.specs.State.{state_of}
use Rattle.vm_typed.proofs.Taken.{on_null_some, branches_on_null}
use Rattle.vm_typed.proofs.within.jump_on_null.Goals as goal

pub operand-requires : goal.operand-requires
operand-requires c = on_null_some c.args.linked.now (state_of c.args.state.now) c.args.wanted c.args.target c.requires.next

pub returns : goal.returns
returns c =
    let m : Machine = state_of c.args.state.now in
    let says : Value = value_in c.args.state.now.texts c.operand.result in
    branches_on_null c.args.linked.now m (state_of c.drop.new.self) c.args.wanted c.args.target c.place_after-place.result says
    c.requires.next c.operand.ensures.value
    (c.place_after-place.ensures ∙ ap (λ (b : Bool). if b then c.args.target else m.frame.place + 1)
    (c.same_truth-test.ensures ∙ ap (same_truth c.args.wanted) (c.is_null.ensures c.args.state.now.texts))) c.drop.ensures.machine
