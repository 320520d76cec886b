use Rattle.std.proofs.Common.{◌≡◌, ◌≤◌, ◌+◌, ◌-◌, ◌++◌, ◌∷◌, [], length, ap, ◌∙◌, arith}
use Rattle.vm_model.specs.Machine.{Machine}
use Rattle.vm_model.specs.Tests.{below}
use Rattle.vm_model.specs.Step.{at_place, next, same_text, truth}
use Rattle.vm_frames.specs.Seen.{value_in}
use Rattle.vm_session.specs.State.{state_of}
use Rattle.vm_step.proofs.Ready.{stays, when_true}
use Rattle.vm_step.proofs.Quietly.{quiet_equals}
use Rattle.vm_step.proofs.quiet.equals.Goals as goal

pub put-requires-clause-set : goal.put-requires-clause-set
put-requires-clause-set c = c.truth-same.ensures.set (length c.args.state.now.texts)

pub returns : goal.returns
returns c =
    let m : Machine = state_of c.args.state.now in
    let some : 2 ≤ length m.frame.operands = omega arith in
    let room : length m.frame.operands - 1 ≤ c.args.max = omega arith in
    let v = value_in c.args.state.now.texts c.operand-value.result in
    let made : state_of c.put.new.self ≡ next m (below 2 m.frame.operands ++ truth (same_text c.in-Some.text.now v) ∷ []) =
    c.put.ensures.machine ∙ (λ i. at_place m (c.place-place.ensures i + 1)
    (below 2 m.frame.operands ++ (c.truth-same.ensures.value c.args.state.now.texts ∙ ap truth c.is_text.ensures) i ∷ [])) in (
      stays c.args.max m (state_of c.put.new.self) made,
      λ p most.
          quiet_equals p m (state_of c.put.new.self) c.in-Some.text.now v some (omega (arith, room, most))
          (rw c.in-Some.is at c.text_at.ensures) c.operand-value.ensures.value
          (when_true c.is_of_sort.result c.if-not-is_of_sort.false c.is_of_sort.ensures c.args.state.now.texts) made,
    )
