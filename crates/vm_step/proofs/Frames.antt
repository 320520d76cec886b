-- Objects that are made, and fields that are written.
use Rattle.std.proofs.Common.{◌≡◌, ℕ, ◌+◌, List, [], ◌∷◌, ◌++◌, length, map, set, slice_get, Some, None, sym, ap}
use Rattle.std.proofs.Common.{◌∙◌}
use Rattle.mg_text.specs.Call.{Name}
use Rattle.mg_text.specs.declared.event.Event.TheVariants as seen
use Rattle.vm_model.specs.declared.value.Value.{Value}
use Rattle.vm_model.specs.declared.value.Value.TheVariants as values
use Rattle.vm_model.specs.Messages.{Messages}
use Rattle.vm_model.specs.Machine as model
use Rattle.vm_model.specs.Machine.{Machine, Went}
use Rattle.vm_model.specs.Tests.{below}
use Rattle.vm_model.specs.Program.{Program, class_at, class_name, fields_in}
use Rattle.vm_model.specs.Step.{at_place, next, goes, blank, makes, writes_object}
use Rattle.vm_session.specs.inner.Tops.{at_top}
use Rattle.vm_step.specs.inner.Objects.{writes_by}

-- a field is written
pub writes_is : (q : Messages) (m new : Machine) (vs : List Value) (field n : ℕ) (v : Value) (o : model.Object) → at_top vs 1 ≡ Some
    (values.Object n) → Some v ≡ at_top vs 0 →
    slice_get m.heap n ≡ Some o → new ≡ next (record m { heap = set m.heap n (record o { fields = set o.fields field v }) }) (below 2 vs) →
    writes_by q m field (below 2 vs) (at_top vs 1) (at_top vs 0) ≡ Went new q None
writes_is q m new vs field n v o e1 e0 found h =
    ap (λ x. writes_by q m field (below 2 vs) x (at_top vs 0)) e1
    ∙ ap (writes_by q m field (below 2 vs) (Some (values.Object n))) (sym e0)
    ∙ ap (writes_object q m (below 2 vs) n field v) found
    ∙ ap (goes q) (sym h)

-- an object is made
pub makes_is : (p : Program) (q : Messages) (m mid new : Machine) (class object place : ℕ) (name : Name) (fields : List Value) →
    name ≡ class_name p class → object ≡ length m.heap → fields ≡ map blank (fields_in (class_at p class)) →
    mid ≡ record m { heap = m.heap ++ record { class = class; fields = fields } ∷ [] } → place ≡ mid.frame.place →
    new ≡ at_place mid (place + 1) (mid.frame.operands ++ values.Object object ∷ []) →
    makes p q m class m.frame.operands ≡ Went new q (Some (seen.Made object name))
makes_is p q m mid new class object place name fields name_is number blanks made at is =
    let made_with : List Value → Machine = λ l. record m { heap = m.heap ++ record { class = class; fields = l } ∷ [] } in
    ap (λ n. Went (next (made_with (map blank (fields_in (class_at p class)))) (m.frame.operands ++ values.Object n ∷ [])) q
    (Some (seen.Made n (class_name p class)))) (sym number)
    ∙ ap (λ l. Went (next (made_with l) (m.frame.operands ++ values.Object object ∷ [])) q (Some (seen.Made object (class_name p class))))
    (sym blanks)
    ∙ ap (λ t. Went (next t (t.frame.operands ++ values.Object object ∷ [])) q (Some (seen.Made object (class_name p class)))) (sym made)
    ∙ ap (λ k. Went (at_place mid (k + 1) (mid.frame.operands ++ values.Object object ∷ [])) q
    (Some (seen.Made object (class_name p class)))) (sym at)
    ∙ ap (λ t. Went t q (Some (seen.Made object (class_name p class)))) (sym is)
    ∙ ap (λ t. Went new q (Some (seen.Made object t))) (sym name_is)
