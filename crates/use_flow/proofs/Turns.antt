-- What a turn of a loop over fields, parameters, slots and states does.
use Rattle.std.proofs.Common.{◌≡◌, ℕ, suc, ◌+◌, ◌<◌, ◌≤◌, List, [], ◌∷◌, ◌++◌, length, get_or, drop, map, Option, Some, None, refl, sym, ap}
use Rattle.std.proofs.Common.{◌∙◌, add-one, append_assoc}
use Rattle.std.specs.Prelude.{slice_set, slice_index_or}
use Rattle.std.proofs.lemmas.List.{at_drop_more, at_drop_all}
use Rattle.jv_core.specs.declared.program.CoreField.{CoreField}
use Rattle.jv_core.specs.View.{field_of}
use Rattle.use_rules.specs.declared.key.TableKey.{TableKey}
use Rattle.use_rules.specs.Elements.{Set}
use Rattle.use_rules.specs.Keys.{class_in}
use Rattle.use_rules.specs.State.{Out}
use Rattle.use_flow.specs.View.{tables_of}
use Rattle.use_flow.specs.inner.Followed.{Followed, field_outs_from, with_fields_from}
use Rattle.use_elements.proofs.Rests.{append_nil}

-- A function of a list that gives, for each item, what stands for it.
module _ {A B : Type 0} (F : ℕ → List A → List B) (f : ℕ → A → List B) (unfolds : (k : ℕ) (x : A) (s : List A) →
    F k (x ∷ s) ≡ f k x ++ F (suc k) s) (ends : (k : ℕ) → F k [] ≡ []) where
  pub one : (k : ℕ) (x : A) (s : List A) (out out' total : List B) → k < length s → x ≡ get_or s k x → out' ≡ out ++ f k x →
      out ++ F k (drop k s) ≡ total → out' ++ F (k + 1) (drop (k + 1) s) ≡ total
  one k x s out out' total lt at e h =
      ap (λ r. r ++ F (k + 1) (drop (k + 1) s)) e
      ∙ append_assoc out (f k x) (F (k + 1) (drop (k + 1) s))
      ∙ ap (λ n. out ++ (f k x ++ F n (drop (k + 1) s))) (add-one k)
      ∙ ap (λ r. out ++ r) (sym (at_drop_more (F k) s k x lt ∙ ap (λ y. F k (y ∷ drop (k + 1) s)) (sym at) ∙ unfolds k x (drop (k + 1) s)))
      ∙ h

  pub last : (k : ℕ) (s : List A) (out total : List B) → length s ≤ k → out ++ F k (drop k s) ≡ total → out ≡ total
  last k s out total le h = sym (ap (λ r. out ++ r) (at_drop_all (F k) s k le ∙ ends k) ∙ append_nil out) ∙ h

-- Fields that flow into tables.

pub field_skip : (s : Followed) (key : ℕ → TableKey) (sets : List Set) (k : ℕ) (d : CoreField) (fs : List CoreField) (out total : List Out)
    →
    k < length fs → d ≡ get_or fs k d → class_in d.ty ≡ None →
    out ++ field_outs_from s key k (map field_of (drop k fs)) sets ≡ total → out ++ field_outs_from s key (k + 1)
    (map field_of (drop (k + 1) fs)) sets ≡ total
field_skip s key sets k d fs out total lt at none h =
    one (λ k fs. field_outs_from s key k (map field_of fs) sets)
    (λ k d. elim (class_in d.ty) [
      | None ↦ []
      | Some c ↦ record { key = key k; set = slice_index_or sets (length s.method.slots + k) [] } ∷
          []
    ])
    (λ k x fs. refl) (λ k. refl) k d fs out out total lt at (go (class_in d.ty) none) h
  where
    go : (o : Option ℕ) → o ≡ None → out ≡ out ++ elim o as (λ _. List Out)
        [ None ↦ [] | Some c ↦ record { key = key k; set = slice_index_or sets (length s.method.slots + k) [] } ∷ [] ]
    go o e = rw e (sym (append_nil out))

pub field_take : (s : Followed) (key : ℕ → TableKey) (sets : List Set) (k : ℕ) (d : CoreField) (fs : List CoreField) (c : ℕ)
    (out out' total : List Out) →
    k < length fs → d ≡ get_or fs k d → class_in d.ty ≡ Some c →
    out' ≡ out ++ record { key = key k; set = slice_index_or sets (length s.method.slots + k) [] } ∷ [] →
    out ++ field_outs_from s key k (map field_of (drop k fs)) sets ≡ total → out' ++ field_outs_from s key (k + 1)
    (map field_of (drop (k + 1) fs)) sets ≡ total
field_take s key sets k d fs c out out' total lt at some e h =
    one (λ k fs. field_outs_from s key k (map field_of fs) sets)
    (λ k d. elim (class_in d.ty) [
      | None ↦ []
      | Some c ↦ record { key = key k; set = slice_index_or sets (length s.method.slots + k) [] } ∷
          []
    ])
    (λ k x fs. refl) (λ k. refl) k d fs out out' total lt at (e ∙ go (class_in d.ty) some) h
  where
    go : (o : Option ℕ) → o ≡ Some c → out ++ record { key = key k; set = slice_index_or sets (length s.method.slots + k) [] } ∷ []
        ≡ out ++ elim o as (λ _. List Out)
        [ None ↦ [] | Some c ↦ record { key = key k; set = slice_index_or sets (length s.method.slots + k) [] } ∷ [] ]
    go o e = rw e refl

pub field_end : (s : Followed) (key : ℕ → TableKey) (sets : List Set) (k : ℕ) (fs : List CoreField) (out total : List Out) → length fs ≤ k →
    out ++ field_outs_from s key k (map field_of (drop k fs)) sets ≡ total → out ≡ total
field_end s key sets k fs out total le h =
    sym (ap (λ r. out ++ r) (at_drop_all (λ xs. field_outs_from s key k (map field_of xs) sets) fs k le) ∙ append_nil out) ∙ h

pub ruleset fields = (field_skip, field_take, field_end)

-- Fields that are filled from tables.

pub fill_skip : (s : Followed) (key : ℕ → TableKey) (k : ℕ) (d : CoreField) (fs : List CoreField) (sets total : List Set) →
    k < length fs → d ≡ get_or fs k d → class_in d.ty ≡ None →
    with_fields_from s key k (map field_of (drop k fs)) sets ≡ total → with_fields_from s key (k + 1) (map field_of (drop (k + 1) fs)) sets
    ≡ total
fill_skip s key k d fs sets total lt at none h =
    ap (λ n. with_fields_from s key n (map field_of (drop (k + 1) fs)) sets) (add-one k)
    ∙ ap (λ (o : Option ℕ). with_fields_from s key (suc k) (map field_of (drop (k + 1) fs))
    (elim o as (λ _. List Set) [ None ↦ sets | Some c ↦ slice_set sets (length s.method.slots + k) (tables_of s.held (key k)) ])) (sym none)
    ∙ ap (λ (y : CoreField). with_fields_from s key k (map field_of (y ∷ drop (k + 1) fs)) sets) at
    ∙ sym (at_drop_more (λ xs. with_fields_from s key k (map field_of xs) sets) fs k d lt) ∙ h

pub fill_take : (s : Followed) (key : ℕ → TableKey) (k : ℕ) (d : CoreField) (fs : List CoreField) (c : ℕ) (sets sets' total : List Set) →
    k < length fs → d ≡ get_or fs k d → class_in d.ty ≡ Some c → sets' ≡ slice_set sets (length s.method.slots + k)
    (tables_of s.held (key k)) →
    with_fields_from s key k (map field_of (drop k fs)) sets ≡ total → with_fields_from s key (k + 1) (map field_of (drop (k + 1) fs)) sets'
    ≡ total
fill_take s key k d fs c sets sets' total lt at some e h =
    ap (λ n. with_fields_from s key n (map field_of (drop (k + 1) fs)) sets') (add-one k)
    ∙ ap (with_fields_from s key (suc k) (map field_of (drop (k + 1) fs))) e
    ∙ ap (λ (o : Option ℕ). with_fields_from s key (suc k) (map field_of (drop (k + 1) fs))
    (elim o as (λ _. List Set) [ None ↦ sets | Some c ↦ slice_set sets (length s.method.slots + k) (tables_of s.held (key k)) ])) (sym some)
    ∙ ap (λ (y : CoreField). with_fields_from s key k (map field_of (y ∷ drop (k + 1) fs)) sets) at
    ∙ sym (at_drop_more (λ xs. with_fields_from s key k (map field_of xs) sets) fs k d lt) ∙ h

pub fill_end : (s : Followed) (key : ℕ → TableKey) (k : ℕ) (fs : List CoreField) (sets total : List Set) → length fs ≤ k →
    with_fields_from s key k (map field_of (drop k fs)) sets ≡ total → sets ≡ total
fill_end s key k fs sets total le h = sym (at_drop_all (λ xs. with_fields_from s key k (map field_of xs) sets) fs k le) ∙ h

pub ruleset filled = (fill_skip, fill_take, fill_end)
