use Rattle.std.proofs.Common.{◌≡◌, Ok, Some, slice_get, sym, ap, ◌∙◌}
use Rattle.vm_model.specs.declared.value.Value.{Value}
use Rattle.vm_model.specs.Step.{pushed}
use Rattle.vm_frames.specs.Seen.{value_in}
use Rattle.vm_session.specs.State.{state_of, operands_of}
use Rattle.vm_step.proofs.Acts.{plays_same}
use Rattle.vm_step.proofs.Ready.{held_is}
use Rattle.vm_step.proofs.plain.load.Goals as goal

pub returns : goal.returns
returns c =
    let m = state_of c.args.state.now in
    let says : Value = value_in c.args.state.now.texts c.in-Some.cell in
    let holds : slice_get m.frame.locals c.args.local ≡ Some (Some says) =
    ap (slice_get m.frame.locals) (sym c.from.ensures)
    ∙ held_is (slice_get m.frame.locals c.from.result) says (rw c.in-Some.is at c.held.ensures.value) in
    plays_same m (state_of c.push.new.state) (Ok c.push.result) _ _
    (λ q. ap (pushed q m (operands_of c.args.state.now)) holds) c.push.ensures
