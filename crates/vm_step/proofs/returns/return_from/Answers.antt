use Rattle.std.proofs.Common.{◌≡◌, ◌∙◌, Option, sym, ap, refl}
use Rattle.std.specs.Option.{option_map}
use Rattle.vm_model.specs.Program.{method_at}
use Rattle.vm_model.specs.Types.{FieldType, signature_of}
use Rattle.vm_model.specs.Descriptors.{type_view}
use Rattle.vm_model.specs.Actions.{Return}
use Rattle.vm_model.specs.Tests.{needs, wrong, return_needs, result_in, descriptor_in, method_of_frame}
use Rattle.vm_session.specs.State.{state_of}
use Rattle.vm_actions.specs.Table.{sort_of}
use Rattle.vm_step.proofs.Acts.{act_wrong}
use Rattle.vm_step.proofs.returns.return_from.Goals as goal

pub returns-in-Some : goal.returns-in-Some
returns-in-Some c =
    let p = c.args.linked.now in
    let m = state_of c.args.state.now in
    let same : option_map type_view c.result_type-answer.result ≡ result_in (signature_of (descriptor_in (method_of_frame p m.frame))) =
    (rw (c.method_at-method.ensures) at c.result_type-answer.ensures)
    ∙ (λ i. result_in (signature_of (descriptor_in (method_at p (c.class.ensures i) (c.method.ensures i))))) in
    let checked : c.check.result ≡ wrong p (needs p m (Return (option_map sort_of c.args.sort))) m =
    c.check.ensures ∙ ap (λ (t : Option FieldType). wrong p (return_needs p m (option_map sort_of c.args.sort) t) m) same in
    λ me q. (act_wrong p q m me (Return (option_map sort_of c.args.sort)) c.in-Some.kind (sym c.in-Some.is ∙ checked), refl, refl)

pub return_right-requires : goal.return_right-requires
return_right-requires c =
    let p = c.args.linked.now in
    let m = state_of c.args.state.now in
    let same : option_map type_view c.result_type-answer.result ≡ result_in (signature_of (descriptor_in (method_of_frame p m.frame))) =
    (rw (c.method_at-method.ensures) at c.result_type-answer.ensures)
    ∙ (λ i. result_in (signature_of (descriptor_in (method_at p (c.class.ensures i) (c.method.ensures i))))) in
    let checked : c.check.result ≡ wrong p (needs p m (Return (option_map sort_of c.args.sort))) m =
    c.check.ensures ∙ ap (λ (t : Option FieldType). wrong p (return_needs p m (option_map sort_of c.args.sort) t) m) same in
    sym checked ∙ c.in_default.is
