use Rattle.std.proofs.Common.{◌≡◌, List, ◌++◌, map, Option, Result, Ok, Err, IfOk, option_map, Bor, sym, ap, ◌∙◌}
use Rattle.std.proofs.lemmas.List.{append-nil}
use Rattle.vm_model.specs.declared.linked.LinkedMethod.{LinkedMethod}
use Rattle.vm_model.specs.View.{method_of}
use Rattle.vm_model.specs.Types.{FieldType, signature_of}
use Rattle.vm_model.specs.Kept.{type_kept}
use Rattle.vm_model.specs.Tests.{Want, Typed, params_in, descriptor_in}
use Rattle.vm_model.proofs.KeptTypes.{params_are, no_params}
use Rattle.vm_step.specs.Needing.{wants_of}
use Rattle.vm_step.proofs.calls.add_args.Goals as goal

appended : {E A : Type 0} (r : Result A E) (x y : List Want) (a b : List FieldType) → IfOk r (λ _. x ≡ y ++ map Typed a) → a ≡ b →
    IfOk r (λ _. x ≡ y ++ map Typed b)
appended (Ok u) x y a b h e = h ∙ ap (λ l. y ++ map Typed l) e
appended (Err m) x y a b h e = tt

abbrev taken_by : Option (Bor LinkedMethod) → List FieldType
taken_by method = params_in (signature_of (descriptor_in (option_map (λ m. method_of m.now) method)))

pub returns-in-Some : goal.returns-in-Some
returns-in-Some c =
    let m = c.in-Some.method.now in
    appended c.add_params.result (wants_of c.add_params.new.takes.items) (wants_of c.args.takes.now.items) _
    (taken_by c.args.method) c.add_params.ensures
    (ap (map type_kept) c.as_slice.ensures.items ∙ params_are m.params.items (signature_of m.descriptor) m.takes
    ∙ sym (ap taken_by c.in-Some.is))

pub returns-in-None : goal.returns-in-None
returns-in-None c =
    sym (append-nil (wants_of c.args.takes.now.items))
    ∙ ap (λ l. wants_of c.args.takes.now.items ++ map Typed l) (sym (ap taken_by c.in-None.is ∙ no_params))
