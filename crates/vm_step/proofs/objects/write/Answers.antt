use Rattle.std.proofs.Common.{◌≡◌, ◌+◌, ◌∙◌, Some, set, slice_get, ap, sym}
use Rattle.vm_model.specs.Machine.{Machine}
use Rattle.vm_model.specs.Tests.{below}
use Rattle.vm_model.specs.Step.{at_place}
use Rattle.vm_frames.specs.Seen.{value_in}
use Rattle.vm_frames.specs.Frames.{with_field}
use Rattle.vm_session.specs.State.{state_of, operands_of}
use Rattle.vm_step.proofs.Calling.{has_object}
use Rattle.vm_step.proofs.Frames.{writes_is}
use Rattle.vm_step.proofs.objects.write.Goals as goal

pub returns : goal.returns
returns c =
    let m : Machine = state_of c.args.state.now in
    let n = c.in-Object.number in
    let v = value_in c.args.state.now.texts c.operand-cell.result in
    let has = has_object (slice_get m.heap n) c.in-Some._class (sym c.in-Some.is ∙ c.class_of_object.ensures) in
    let written : state_of c.set_field.new.self
    ≡ record m { heap = set m.heap n (record has.0 { fields = set has.0.fields c.args.field v }) } =
    c.set_field.ensures.machine ∙ ap (λ r. record m { heap = with_field m.heap n c.args.field v r }) has.1 in
    λ q. writes_is q m (state_of c.drop.new.self) (operands_of c.args.state.now) c.args.field n v has.0
    (c.operand.ensures.value ∙ ap (λ x. Some (value_in c.args.state.now.texts x)) c.in-Object.is) (sym c.operand-cell.ensures.value) has.1
    (c.drop.ensures.machine
    ∙ (λ i. at_place (written i) ((c.place-place.ensures ∙ ap (λ (k : Machine). k.frame.place) written) i + 1)
    (below 2 (written i).frame.operands)))
