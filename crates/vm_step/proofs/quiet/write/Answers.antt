use Rattle.std.proofs.Common.{◌≡◌, ◌+◌, Some, set, slice_get, sym, ap, ◌∙◌, arith}
use Rattle.vm_model.specs.Descriptors.{type_view}
use Rattle.vm_model.specs.Machine.{Machine}
use Rattle.vm_model.specs.Tests.{below, type_in}
use Rattle.vm_model.specs.Step.{at_place, next}
use Rattle.vm_frames.specs.Seen.{value_in}
use Rattle.vm_session.specs.State.{state_of}
use Rattle.vm_frames.specs.Frames.{with_field}
use Rattle.vm_step.specs.Needing.{want_of}
use Rattle.vm_step.proofs.Quietly.{has_class, quiet_write}
use Rattle.vm_step.proofs.quiet.write.Goals as goal

pub returns : goal.returns
returns c =
    let m : Machine = state_of c.args.state.now in
    let n = c.in-Some.object in
    let w = value_in c.args.state.now.texts c.operand-cell.result in
    let o = has_class (slice_get m.heap n) c.args.class c.in-Some.ensures.class in
    let written : state_of c.set_field.new.self
    ≡ record m { heap = set m.heap n (record o.0 { fields = set o.0.fields c.args.field w }) } =
    c.set_field.ensures.machine ∙ ap (λ r. record m { heap = with_field m.heap n c.args.field w r }) o.1 in
    let made : state_of c.drop.new.self
    ≡ next (record m { heap = set m.heap n (record o.0 { fields = set o.0.fields c.args.field w }) }) (below 2 m.frame.operands) =
    c.drop.ensures.machine
    ∙ (λ i. at_place (written i) ((c.place-place.ensures ∙ ap (λ (k : Machine). k.frame.place) written) i + 1)
    (below 2 (written i).frame.operands)) in (
      (ap (λ (k : Machine). k.frame.class) made, ap (λ (k : Machine). k.frame.method) made),
      quiet_write c.args.linked.now m (state_of c.drop.new.self) c.args.class c.args.field n w
          (type_view c.in-Typed.wanted) o.0 (omega arith) (omega (arith, c.requires.room))
          (c.operand.ensures.value ∙ ap (λ x. Some (value_in c.args.state.now.texts x)) c.in-Some.ensures.object)
          c.operand-cell.ensures.value c.in-Some.ensures.class o.1
          (ap type_in (sym c.field_at.ensures) ∙ sym c.field_want.ensures ∙ ap want_of c.in-Typed.is)
          (sym c.misfit_type.ensures ∙ c.in_default-misfit_type.is) made,
    )
