use Rattle.std.proofs.Common.{◌≡◌, [], sym, ap, ◌∙◌}
use Rattle.std.specs.Option.{option_map}
use Rattle.vm_model.specs.Types.{signature_of}
use Rattle.vm_model.specs.Descriptors.{type_view}
use Rattle.vm_model.specs.Tests.{result_in, descriptor_in, method_of_frame}
use Rattle.vm_model.specs.View.{method_of}
use Rattle.vm_session.specs.State.{state_of}
use Rattle.vm_step.proofs.Quietly.{left_so, left_runs, quiet_return}
use Rattle.vm_step.proofs.quiet.return_nothing.Goals as goal

pub returns : goal.returns
returns c =
    let p = c.args.linked.now in
    let m = state_of c.args.state.now in
    let new = state_of c.leave-left.new.self in
    let next = method_of c.in-Some-awaiting.next.now in
    let awaits = c.in-Some-awaiting.ensures in
    let same : option_map type_view c.result_type.result ≡ result_in (signature_of (descriptor_in (method_of_frame p m.frame))) =
    c.result_type.ensures ∙ ap (λ o. result_in (signature_of (descriptor_in o))) c.requires.runs in
    let is = left_so p 0 next m.callers _ c.leave-left.result awaits c.leave-left.ensures.yes c.leave-left.ensures.no in (
      quiet_return p m new c.requires.told next awaits (sym same ∙ ap (option_map type_view) c.in_default.is) is,
      left_runs p m new [] 0 next m.callers awaits is,
    )
