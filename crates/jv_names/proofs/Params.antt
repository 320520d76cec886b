-- The parameters of a core's method are those of its source.
use Rattle.std.proofs.Common.{◌≡◌, ℕ, zero, suc, ◌+◌, List, [], ◌∷◌, length, map, take, slice_get, Some, None, refl, sym, ap, ◌∙◌, subst}
use Rattle.std.proofs.Common.{arith}
use Rattle.jv_tree.specs.declared.tree.Param.{Param}
use Rattle.jv_rules.specs.Program.{Program}
use Rattle.jv_core.specs.Tree as Core
use Rattle.jv_core.specs.Members.{texts_at}
use Rattle.jv_names.specs.Resolves.{Aligned, none, more, IsNamed, IsType, IsSlot, AreParams, param, Resolves}
use Rattle.jv_names.proofs.Tables.{some_is, text_is}

module _ (program : Program) (core : Core.Program) where
  -- a slot is that of a parameter
  pub record IsParam (p : Param) (s : Core.Slot) : Type 0 where
    pub named : IsNamed program core s.name p.name
    pub type : IsType program core p.ty s.ty

  pub slot_of : (method : Core.Method) (n : ℕ) (ps : List Param) → AreParams program core method n ps → (i : ℕ) (p : Param) →
      slice_get ps i ≡ Some p →
      IsSlot program core method (n + i) p.name p.ty
  slot_of method n [] h i p e = absurd (cc)
  slot_of method n (q ∷ ps) (param s rest) zero p e =
      let number : n ≡ n + 0 = omega arith in
      subst (λ k. IsSlot program core method k p.name p.ty) number (subst (λ (q : Param). IsSlot program core method n q.name q.ty)
      (some_is e) s)
  slot_of method n (q ∷ ps) (param s rest) (suc i) p e =
      let number : suc n + i ≡ n + suc i = omega arith in
      subst (λ k. IsSlot program core method k p.name p.ty) number (slot_of method (suc n) ps rest i p e)

  aligned_take : (ps : List Param) (slots : List Core.Slot) →
      ((i : ℕ) (p : Param) → slice_get ps i ≡ Some p → (s : Core.Slot) × (slice_get slots i ≡ Some s) × IsParam p s) →
      Aligned IsParam ps (take (length ps) slots)
  aligned_take [] slots h = none
  aligned_take (p ∷ ps) [] h = absurd (let w = h 0 p refl in missing w.0 w.1)
    where
      missing : (s : Core.Slot) → None ≡ Some s → ⊥
      missing s e = cc
  aligned_take (p ∷ ps) (s ∷ slots) h =
      let w = h 0 p refl in
      more (subst (IsParam p) (sym (some_is w.1)) w.2) (aligned_take ps slots (λ i q e. h (suc i) q e))

  -- the first slots are those of the parameters
  pub params_aligned : (method : Core.Method) (ps : List Param) → method.params ≡ length ps → AreParams program core method 0 ps →
      Aligned IsParam ps (take method.params method.slots)
  params_aligned method ps count h =
      subst (λ n. Aligned IsParam ps (take n method.slots)) (sym count) (aligned_take ps method.slots
      (λ i p e. let s = slot_of method 0 ps h i p e in
      let number : 0 + i ≡ i = omega arith in
      (s.slot, subst (λ k. slice_get method.slots k ≡ Some s.slot) number s.at, record { named = s.named; type = s.type })))

  module _ (res : Resolves program core) where
    param_texts_of : {ps : List Param} {slots : List Core.Slot} → Aligned IsParam ps slots → texts_at core (map (λ s. s.name) slots) ≡ map
        (λ p. p.name) ps
    param_texts_of none = refl
    param_texts_of (more {a = p} {b = s} {as' = ps} {bs = slots} i rest) =
        ap (λ t. t ∷ texts_at core (map (λ (s : Core.Slot). s.name) slots)) (text_is program core res s.name p.name i.named)
        ∙ ap (λ ts. p.name ∷ ts) (param_texts_of rest)

    pub param_texts : (method : Core.Method) (ps : List Param) → method.params ≡ length ps → AreParams program core method 0 ps →
        texts_at core (map (λ s. s.name) (take method.params method.slots)) ≡ map (λ p. p.name) ps
    param_texts method ps count h = param_texts_of (params_aligned method ps count h)
