use Rattle.std.proofs.Common.{◌+◌, Bool, arith, ap, ◌∙◌}
use Rattle.std.specs.Prelude.{if◌then◌else◌}
use Rattle.vm_model.specs.declared.value.Value.{Value}
use Rattle.vm_model.specs.Step.{same_truth}
use Rattle.vm_frames.specs.Seen.{value_in}
use Rattle.vm_session.specs.State.{state_of}
use Rattle.vm_step.proofs.Ready.{if_null_alone, when_true}
use Rattle.vm_step.proofs.frequent.jump_on_null.Goals as goal

pub returns : goal.returns
returns c =
    let says : Value = value_in c.args.state.now.texts c.operand-cell.result in
    if_null_alone c.args.max (state_of c.args.state.now) (state_of c.drop.new.self)
    (omega arith) c.args.wanted c.args.target c.place_after-place.result
    says c.operand-cell.ensures.value (when_true c.is_of_sort.result c.if-not-is_of_sort.false c.is_of_sort.ensures c.args.state.now.texts)
    (omega arith)
    (c.place_after-place.ensures ∙ ap (λ (b : Bool). if b then c.args.target else (state_of c.args.state.now).frame.place + 1)
    (c.same_truth-test.ensures ∙ ap (same_truth c.args.wanted) (c.is_null.ensures c.args.state.now.texts))) c.drop.ensures.machine
