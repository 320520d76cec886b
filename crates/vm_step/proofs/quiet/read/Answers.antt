use Rattle.std.proofs.Common.{◌≡◌, ◌≤◌, ◌+◌, ◌++◌, ◌∷◌, [], Some, length, ap, ◌∙◌, arith}
use Rattle.vm_model.specs.Machine.{Machine}
use Rattle.vm_model.specs.Tests.{below}
use Rattle.vm_model.specs.Step.{at_place, next}
use Rattle.vm_frames.specs.Seen.{value_in}
use Rattle.vm_session.specs.State.{state_of}
use Rattle.vm_step.proofs.Ready.{stays}
use Rattle.vm_step.proofs.Quietly.{quiet_read}
use Rattle.vm_step.proofs.quiet.read.Goals as goal

pub returns : goal.returns
returns c =
    let m : Machine = state_of c.args.state.now in
    let some : 1 ≤ length m.frame.operands = omega arith in
    let room : length m.frame.operands ≤ c.args.max = omega arith in
    let made : state_of c.put.new.self
    ≡ next m (below 1 m.frame.operands ++ value_in c.args.state.now.texts c.in-Some-field.cell ∷ []) =
    c.put.ensures.machine ∙ (λ i. at_place m (c.place-place.ensures i + 1)
    (below 1 m.frame.operands ++ value_in c.args.state.now.texts c.in-Some-field.cell ∷ [])) in (
      stays c.args.max m (state_of c.put.new.self) made,
      λ p most.
          quiet_read p m (state_of c.put.new.self) c.args.class c.args.field c.in-Some.object
          (value_in c.args.state.now.texts c.in-Some-field.cell) some (omega (arith, room, most))
          (c.operand.ensures.value ∙ ap (λ x. Some (value_in c.args.state.now.texts x)) c.in-Some.ensures.object)
          c.in-Some.ensures.class (rw c.in-Some-field.is at c.field.ensures.value) made,
    )
