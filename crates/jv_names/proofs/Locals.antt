-- The slots in scope have the names and types of the locals in scope.
use Rattle.std.proofs.Common.{◌≡◌, ◌≢◌, ℕ, zero, suc, ◌<◌, Bool, true, false, cond, true≢false, List, [], ◌∷◌, length, get_or, Some, None}
use Rattle.std.proofs.Common.{refl, sym, ap, ◌∙◌, subst, arith}
use Rattle.std.specs.Prelude.{Contains, slice_get, slice_index_or, option_map}
use Rattle.std.specs.List.{find}
use Rattle.std.specs.Str.{bytes_eq}
use Rattle.std.proofs.lemmas.Slice.Eq.{bytes_eq-Decides}
use Rattle.mg_text.specs.Call.{Name}
use Rattle.ts_tree.specs.declared.parts.TypeName.{TypeName}
use Rattle.jv_rules.specs.Program.{Program}
use Rattle.jv_rules.specs.Types.{meant}
use Rattle.jv_rules.specs.Scope.{Scope, Declared, local_named}
use Rattle.jv_core.specs.Tree as Core
use Rattle.jv_core.specs.Lookup.{text_at, slot_text}
use Rattle.jv_core.specs.Statements.{IsNewIn}
use Rattle.jv_names.specs.Resolves.{Aligned, IsSlot}
use Rattle.jv_names.specs.Resolves as is

some_is : {A : Type 0} {a b : A} → Some a ≡ Some b → a ≡ b
some_is e = cc

text_of : (names : List Name) (n : ℕ) (name : Name) → slice_get names n ≡ Some name → get_or names n [] ≡ name
text_of [] n name e = absurd (cc)
text_of (x ∷ names) zero name e = some_is e
text_of (x ∷ names) (suc n) name e = text_of names n name e

module _ (program : Program) (core : Core.Program) (method : Core.Method) where
  -- a slot is that of a local
  pub record IsLocal (d : Declared) (k : ℕ) : Type 0 where
    pub ty : TypeName
    pub slot : IsSlot program core method k d.name ty
    pub type : d.type ≡ meant program ty

  -- the slots in scope are those of the locals in scope
  abbrev pub AreLocals : List Declared → List ℕ → Type 0
  AreLocals ds ks = Aligned IsLocal ds ks

  -- a declaration brings its slot into scope
  pub declared : (ds : List Declared) (ks : List ℕ) (name : Name) (ty : TypeName) (k : ℕ) → IsSlot program core method k name ty →
      AreLocals ds ks →
      AreLocals (record { name = name; type = meant program ty } ∷ ds) (k ∷ ks)
  declared ds ks name ty k slot locals = is.more (record { ty = ty; slot = slot; type = refl }) locals

  pub slot_named : (k : ℕ) (name : Name) (ty : TypeName) → IsSlot program core method k name ty → slot_text core method k ≡ Some name
  slot_named k name ty slot = ap (option_map (λ (s : Core.Slot). text_at core s.name)) slot.at ∙
      ap Some (text_of core.names slot.slot.name name slot.named)

  -- where no local has a name, no slot in scope has it
  others : (ds : List Declared) (ks : List ℕ) (name : Name) → AreLocals ds ks → find (λ d. bytes_eq d.name name) ds ≡ None → (j : ℕ) →
      Contains ks j → slot_text core method j ≢ Some name
  others _ _ name is.none e j c = absurd (omega arith)
  others _ _ name (is.more {a = d} {b = k} {as' = ds} {bs = ks} i rest) e j c = go (bytes_eq d.name name) refl (others ds ks name rest) e
      c.0 c.1 c.2
    where
      differs : bytes_eq d.name name ≡ false → slot_text core method k ≢ Some name
      differs unlike same = true≢false (sym ((bytes_eq-Decides d.name name).1 (some_is (sym (slot_named k d.name i.ty i.slot) ∙ same))) ∙
          unlike)

      at : (n : ℕ) → (Contains ks j → slot_text core method j ≢ Some name) → bytes_eq d.name name ≡ false → n < length (k ∷ ks) →
          slice_index_or (k ∷ ks) n j ≡ j → slot_text core method j ≢ Some name
      at zero ih unlike lt e = subst (λ j. slot_text core method j ≢ Some name) e (differs unlike)
      at (suc n) ih unlike lt e = ih (n, omega arith, e)

      go : (b : Bool) → bytes_eq d.name name ≡ b → (find (λ d. bytes_eq d.name name) ds ≡ None → (j : ℕ) → Contains ks j →
          slot_text core method j ≢ Some name) →
          cond b (Some d) (find (λ d. bytes_eq d.name name) ds) ≡ None → (n : ℕ) → n < length (k ∷ ks) → slice_index_or (k ∷ ks) n j ≡ j →
          slot_text core method j ≢ Some name
      go true unlike ih e n lt f = absurd (cc)
      go false unlike ih e n lt f = at n (ih e j) unlike lt f

  -- A local whose name no local in scope has is new among the slots in scope.
  pub is_new : (scope : Scope) (ks : List ℕ) (name : Name) (ty : TypeName) (k : ℕ) → AreLocals scope.locals ks →
      IsSlot program core method k name ty → local_named scope name ≡ None → IsNewIn core method ks k
  is_new scope ks name ty k locals slot none j c same = others scope.locals ks name locals none j c (same ∙ slot_named k name ty slot)
