-- The descriptor of a method, from the slots of its parameters.
use Rattle.std.proofs.Common.{◌≡◌, ℕ, ◌+◌, ◌<◌, ◌≤◌, List, [], ◌∷◌, ◌++◌, length, map, drop, get_or, refl, sym, ap, ◌∙◌, append_assoc}
use Rattle.std.proofs.Common.{codes}
use Rattle.std.proofs.lemmas.List.{append-nil, at_drop_more, drop_all}
use Rattle.jv_core.specs.declared.program.CoreSlot.{CoreSlot}
use Rattle.jv_core.specs.View.{slot_of}
use Rattle.std.specs.List.{flat_map}
use Rattle.jv_core.specs.declared.program.CoreType.{CoreType}
use Rattle.jv_core.specs.Tree.{Slot, Program}
use Rattle.vm_model.specs.Types.{type_text, result_text}
use Rattle.gen_rules.specs.Members.{type_in, result_in, descriptor_of}
use Rattle.gen_members.specs.Slots.{slots_text}

pub slots_types : (p : Program) (slots : List Slot) → flat_map type_text (map (type_in p) (map (λ s. s.ty) slots)) ≡ slots_text p slots
slots_types p [] = refl
slots_types p (s ∷ slots) = ap (λ (ts : List ℕ). type_text (type_in p s.ty) ++ ts) (slots_types p slots)

-- the parts of a descriptor, one behind the other
pub descriptor_parts : (p : Program) (slots : List Slot) (result : CoreType) (a b c d : List ℕ) → a ≡ codes "(" →
    b ≡ a ++ slots_text p slots
    → c ≡ b ++ codes ")" → d ≡ c ++ result_text (result_in p result) → d ≡ descriptor_of p (map (λ s. s.ty) slots) result
descriptor_parts p slots result a b c d ea eb ec ed =
    ed ∙ ap (λ x. x ++ result_text (result_in p result)) (ec ∙ ap (λ x. x ++ codes ")") (eb ∙ ap (λ x. x ++ slots_text p slots) ea))
    ∙ ap (λ x. ((codes "(" ++ x) ++ codes ")") ++ result_text (result_in p result)) (sym (slots_types p slots))
    ∙ simp append_assoc

module _ (p : Program) (slots : List CoreSlot) (i : ℕ) where
  -- the slots that are left, as text
  abbrev left : List CoreSlot → List ℕ
  left xs = slots_text p (map slot_of xs)

  -- one more is put
  pub param_put : (d : CoreSlot) (old new all : List ℕ) → i < length slots →
      new ≡ old ++ type_text (type_in p (get_or slots i d).ty) → old ++ slots_text p (map slot_of (drop i slots)) ≡ all →
      new ++ slots_text p (map slot_of (drop (i + 1) slots)) ≡ all
  param_put d old new all within put l =
      let text = type_text (type_in p (get_or slots i d).ty) in
      let cut : drop i slots ≡ get_or slots i d ∷ drop (i + 1) slots = at_drop_more (λ ys. ys) slots i d within in
      ap (λ ys. ys ++ left (drop (i + 1) slots)) put ∙ append_assoc old text (left (drop (i + 1) slots))
      ∙ ap (λ ys. old ++ left ys) (sym cut) ∙ l

  -- all are put
  pub params_put : (out all : List ℕ) → length slots ≤ i → out ++ slots_text p (map slot_of (drop i slots)) ≡ all → out ≡ all
  params_put out all past l = sym (append-nil out) ∙ ap (λ ys. out ++ left ys) (sym (drop_all i slots past)) ∙ l
