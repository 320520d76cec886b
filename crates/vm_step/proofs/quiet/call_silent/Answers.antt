use Rattle.std.proofs.Common.{◌≡◌, ◌+◌, List, Some, None, length, map, ap, ◌∙◌, arith}
use Rattle.std.proofs.lemmas.List.{length-map}
use Rattle.vm_model.specs.Program.{method_at}
use Rattle.vm_model.specs.Types.{FieldType, signature_of}
use Rattle.vm_model.specs.Kept.{type_kept}
use Rattle.vm_model.specs.Tests.{params_in, descriptor_in, max_locals_in}
use Rattle.vm_model.specs.View.{method_of}
use Rattle.vm_frames.specs.Seen.{value_in}
use Rattle.vm_session.specs.State.{state_of}
use Rattle.vm_step.proofs.Ready.{when_true, when_false}
use Rattle.vm_step.proofs.Quietly.{quiet_silent, entered_runs, params_kept}
use Rattle.vm_step.proofs.quiet.call_silent.Goals as goal

pub returns : goal.returns
returns c =
    let p = c.args.linked.now in
    let m = state_of c.args.state.now in
    let called = c.in-Some.called.now in
    let e : Some (method_of called) ≡ method_at p c.args.class c.args.method = rw c.in-Some.is at c.method_at.ensures in
    let types : List FieldType = map type_kept c.as_slice-params.result.now in
    let params : params_in (signature_of (descriptor_in (method_at p c.args.class c.args.method))) ≡ types =
    params_kept (method_at p c.args.class c.args.method) (method_of called) called.params.items c.as_slice-params.result.now e called.takes
    c.as_slice-params.ensures.items in
    let is = when_true c.enter.result c.if-not-enter.false c.enter.ensures.yes in (
      quiet_silent p m (state_of c.enter.new.state) c.args.class c.args.method called.max_locals types params (ap max_locals_in e)
          (length c.as_slice-params.result.now) c.in-Some-object_of._object (length-map c.as_slice-params.result.now type_kept)
          (omega arith) (omega arith)
          (c.operand.ensures.value ∙ ap (λ x. Some (value_in c.args.state.now.texts x)) c.in-Some-object_of.ensures.object)
          c.in-Some-object_of.ensures.class (when_true c.fit.result c.if-not-fit.false c.fit.ensures) is,
      entered_runs p m (state_of c.enter.new.state) c.args.class c.args.method (length c.as_slice-params.result.now + 1) called.max_locals
          None (method_of called) e is,
    )

pub returns-then-not-enter : goal.returns-then-not-enter
returns-then-not-enter c = when_false c.enter.result c.if-not-enter.true c.enter.ensures.no
