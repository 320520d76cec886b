-- The labels of a resolved switch are apart, and positions of constants.
use Rattle.std.proofs.Common.{◌≡◌, inl, ℕ, zero, suc, ◌+◌, ◌<◌, Bool, true, false, not, cond, T, ltb, ltb→lt, List, [], ◌∷◌, ◌++◌, length}
use Rattle.std.proofs.Common.{get_or, Option, Some, None, refl, sym, ap, ◌∙◌, subst, arith}
use Rattle.std.specs.Prelude.{Contains, slice_get, slice_index_or, position, map}
use Rattle.std.specs.List.{position_or_len}
use Rattle.std.specs.Str.{bytes_eq}
use Rattle.std.proofs.lemmas.Slice.Eq.{bytes_eq-Decides}
use Rattle.mg_text.specs.Call.{Name}
use Rattle.mg_text.specs.declared.place.Place.{Place}
use Rattle.mg_read.specs.Culprit.{Culprit, culprit}
use Rattle.mg_read.specs.First.{behind, Clean}
use Rattle.std.specs.List.{AllByRecursion}
use Rattle.jv_tree.specs.Source
use Rattle.jv_meaning.specs.Program.{constant_position}
use Rattle.jv_rules.specs.Program.{Program}
use Rattle.jv_rules.specs.Scope.{Scope}
use Rattle.jv_rules.specs.Conditions.{cases, BadLabel, CaseAt}
use Rattle.jv_core.specs.Tree as Core
use Rattle.jv_core.specs.Statements.{AreApart, AreCases, labels_in}
use Rattle.jv_names.specs.Resolves.{Aligned, Numbers, IsLabel, IsGroups}
use Rattle.jv_names.specs.Resolves as is

-- What stands behind what.

is_here : {A : Type 0} (x : A) (xs : List A) → Contains (x ∷ xs) x
is_here x xs = (zero, omega arith, refl)

more_bound : {k n : ℕ} → k < n → suc k < suc n
more_bound e = omega arith

is_there : {A : Type 0} (y x : A) (xs : List A) → Contains xs x → Contains (y ∷ xs) x
is_there y x xs c = (suc c.0, more_bound c.1, c.2)

at_end : {A : Type 0} (xs : List A) (x : A) → Contains (xs ++ x ∷ []) x
at_end [] x = is_here x []
at_end (y ∷ xs) x = is_there y x (xs ++ x ∷ []) (at_end xs x)

in_front : {A : Type 0} (xs : List A) (x y : A) → Contains xs x → Contains (xs ++ y ∷ []) x
in_front [] x y c = absurd (omega arith)
in_front (z ∷ xs) x y c = go (in_front xs x y) c.0 c.1 c.2
  where
    go : (Contains xs x → Contains (xs ++ y ∷ []) x) → (k : ℕ) → k < length (z ∷ xs) → slice_index_or (z ∷ xs) k x ≡ x →
        Contains (z ∷ (xs ++ y ∷ [])) x
    go rest zero lt e = (zero, omega arith, e)
    go rest (suc k) lt e = is_there z x (xs ++ y ∷ []) (rest (k, omega arith, e))

-- no element stands behind an equal one
abbrev pub AreFresh : {A : Type 0} → List (List A × A) → Type 0
AreFresh qs = AllByRecursion (λ q. Contains q.0 q.1 → ⊥) qs

not_later : {A : Type 0} (seen xs : List A) (x : A) → AreFresh (behind seen xs) → Contains seen x → Contains xs x → ⊥
not_later seen [] x fresh c d = absurd (omega arith)
not_later seen (y ∷ ys) x fresh c d = go (not_later (seen ++ y ∷ []) ys x fresh.1 (in_front seen x y c)) d.0 d.1 d.2
  where
    go : (Contains ys x → ⊥) → (k : ℕ) → k < length (y ∷ ys) → slice_index_or (y ∷ ys) k x ≡ x → ⊥
    go rest zero lt e = fresh.0 (subst (Contains seen) (sym e) c)
    go rest (suc k) lt e = rest (k, omega arith, e)

pub fresh_apart : {A : Type 0} (seen xs : List A) → AreFresh (behind seen xs) → AreApart xs
fresh_apart seen [] fresh = tt
fresh_apart seen (x ∷ xs) fresh = (
  (λ d. not_later (seen ++ x ∷ []) xs x fresh.1 (at_end seen x) d),
  fresh_apart
      (seen ++ x ∷ []) xs fresh.1,
)

-- Lists that stand for each other.

abbrev pub IsInjective : {A B : Type 0} → (A → B → Type 0) → Type 0
IsInjective {A} {B} Is = (a c : A) (b : B) → Is a b → Is c b → a ≡ c

aligned_back : {A B : Type 0} (Is : A → B → Type 0) → IsInjective Is → (as' : List A) (bs : List B) (a : A) (b : B) →
    Aligned Is as' bs → Is a b → Contains bs b → Contains as' a
aligned_back Is inj _ _ a b is.none i c = absurd (omega arith)
aligned_back Is inj _ _ a b (is.more {a = x} {b = y} {as' = xs} {bs = ys} j others) i c =
    go (aligned_back Is inj xs ys a b others i) c.0 c.1 c.2
  where
    go : (Contains ys b → Contains xs a) → (k : ℕ) → k < length (y ∷ ys) → slice_index_or (y ∷ ys) k b ≡ b → Contains (x ∷ xs) a
    go rest zero lt e = (zero, omega arith, inj x a b (subst (Is x) e j) i)
    go rest (suc k) lt e = is_there x a xs (rest (k, omega arith, e))

pub aligned_apart : {A B : Type 0} (Is : A → B → Type 0) → IsInjective Is → (as' : List A) (bs : List B) → Aligned Is as' bs →
    AreApart as' → AreApart bs
aligned_apart Is inj _ _ is.none h = tt
aligned_apart Is inj _ _ (is.more {a = x} {b = y} {as' = xs} {bs = ys} i others) h =
    ((λ c. h.0 (aligned_back Is inj xs ys x y others i c)), aligned_apart Is inj xs ys others h.1)

pub aligned_append : {A B : Type 0} (Is : A → B → Type 0) (as' as'' : List A) (bs bs' : List B) → Aligned Is as' bs →
    Aligned Is as'' bs' → Aligned Is (as' ++ as'') (bs ++ bs')
aligned_append Is _ as'' _ bs' is.none h = h
aligned_append Is _ as'' _ bs' (is.more {as' = xs} {bs = ys} i others) h = is.more i (aligned_append Is xs as'' ys bs' others h)

-- Positions of constants.

passes_at : {A : Type 0} (p : A → Bool) (xs : List A) (d : A) → position_or_len p xs < length xs →
    p (get_or xs (position_or_len p xs) d) ≡ true
passes_at p [] d lt = absurd (omega arith)
passes_at p (x ∷ xs) d lt = go (p x) refl (passes_at p xs d) lt
  where
    go : (b : Bool) → p x ≡ b → (position_or_len p xs < length xs → p (get_or xs (position_or_len p xs) d) ≡ true) →
        cond (not b) (1 + position_or_len p xs) 0 < suc (length xs) →
        p (get_or (x ∷ xs) (cond (not b) (1 + position_or_len p xs) 0) d) ≡ true
    go true is rest lt = is
    go false is rest lt =
        let next : 1 + position_or_len p xs ≡ suc (position_or_len p xs) = omega arith in
        subst (λ i. p (get_or (x ∷ xs) i d) ≡ true) (sym next) (rest (omega arith))

some_is : {A : Type 0} {a b : A} → Some a ≡ Some b → a ≡ b
some_is e = cc

pub constant_at : (e : Source.Enum) (a : Name) (n : ℕ) → constant_position e a ≡ Some n → get_or e.constants n [] ≡ a
constant_at e a n h = go (ltb (position_or_len (bytes_eq a) e.constants) (length e.constants)) refl h
  where
    go : (b : Bool) → ltb (position_or_len (bytes_eq a) e.constants) (length e.constants) ≡ b →
        cond b (Some (position_or_len (bytes_eq a) e.constants)) None ≡ Some n → get_or e.constants n [] ≡ a
    go true is h = subst (λ n. get_or e.constants n [] ≡ a) (some_is h)
        (sym ((bytes_eq-Decides a (get_or e.constants (position_or_len (bytes_eq a) e.constants) [])).0
        (passes_at (bytes_eq a) e.constants [] (ltb→lt (position_or_len (bytes_eq a) e.constants) (length e.constants)
        (subst T (sym is) tt)))))
    go false is h = absurd (cc)

module _ (program : Program) (core : Core.Program) (method : Core.Method) (enum : Source.Enum) where
  label_injective : IsInjective (IsLabel program core enum)
  label_injective _ _ k is.default_label is.default_label = refl
  label_injective _ _ k (is.case_label {l = a} {n = n} e) (is.case_label {l = b} f) =
      ap Some (sym (constant_at enum a n e) ∙ constant_at enum b n f)

  pub labels_aligned : {sc : Scope} {ns : Numbers} {gs : Source.Groups} {gs' : Core.Groups} →
      IsGroups program core method enum sc ns gs gs' → Aligned (IsLabel program core enum) (cases gs) (labels_in gs')
  labels_aligned is.no_group = is.none
  labels_aligned (is.group {labels = ls} {labels' = ks} {gs = gs} {gs' = gs'} labels body others) =
      aligned_append (IsLabel program core enum) ls (cases gs) ks (labels_in gs') labels (labels_aligned others)

  -- Where no case or default of the source stands behind an equal one, no label of the core stands twice.
  pub labels_apart : {sc : Scope} {ns : Numbers} (gs : Source.Groups) (gs' : Core.Groups) →
      IsGroups program core method enum sc ns gs gs' → AreFresh (behind [] (cases gs)) → AreApart (labels_in gs')
  labels_apart gs gs' is fresh = aligned_apart (IsLabel program core enum) label_injective (cases gs) (labels_in gs')
      (labels_aligned is) (fresh_apart [] (cases gs) fresh)

-- What is clean at a switch of the source.

case_fresh : (scope : Scope) (p : Place) (e : Source.Expr) (q : List (Option Name) × Option Name) →
    ((c : Culprit) → BadLabel (CaseAt scope p e q) c → ⊥) → Contains q.0 q.1 → ⊥
case_fresh scope p e (earlier, None) n h = n (culprit p []) (refl, h)
case_fresh scope p e (earlier, Some name) n h = n (culprit p name) (refl, inl h)

pub cases_fresh : (scope : Scope) (p : Place) (e : Source.Expr) (qs : List (List (Option Name) × Option Name)) →
    Clean BadLabel (map (CaseAt scope p e) qs) → AreFresh qs
cases_fresh scope p e [] h = tt
cases_fresh scope p e (q ∷ qs) h = (case_fresh scope p e q h.0, cases_fresh scope p e qs h.1)

-- Positions are in range.

pub position_in : {A : Type 0} (p : A → Bool) (xs : List A) (n : ℕ) → position p xs ≡ Some n → n < length xs
position_in p xs n h = go (ltb (position_or_len p xs) (length xs)) refl h
  where
    go : (b : Bool) → ltb (position_or_len p xs) (length xs) ≡ b → cond b (Some (position_or_len p xs)) None ≡ Some n → n < length xs
    go true is h = subst (λ n. n < length xs) (some_is h) (ltb→lt (position_or_len p xs) (length xs) (subst T (sym is) tt))
    go false is h = absurd (cc)

label_in : (program : Program) (core : Core.Program) (enum : Source.Enum) (l : Option Name) (k : Option ℕ) (n : ℕ) →
    IsLabel program core enum l k → k ≡ Some n → n < length enum.constants
label_in program core enum _ _ n is.default_label e = absurd (cc)
label_in program core enum _ _ n (is.case_label {l = l} {n = i} at) e =
    subst (λ i. i < length enum.constants) (some_is e) (position_in (bytes_eq l) enum.constants i at)

labels_in_range : (program : Program) (core : Core.Program) (enum : Source.Enum) (ls : List (Option Name)) (ks : List (Option ℕ)) →
    Aligned (IsLabel program core enum) ls ks → (n : ℕ) → Contains ks (Some n) →
    n < length enum.constants
labels_in_range program core enum _ _ is.none n c = absurd (omega arith)
labels_in_range program core enum _ _ (is.more {a = l} {b = k} {as' = ls} {bs = ks} i others) n c =
    go (labels_in_range program core enum ls ks others n) c.0 c.1 c.2
  where
    go : (Contains ks (Some n) → n < length enum.constants) → (j : ℕ) → j < length (k ∷ ks) →
        slice_index_or (k ∷ ks) j (Some n) ≡ Some n → n < length enum.constants
    go rest zero lt e = label_in program core enum l k n i e
    go rest (suc j) lt e = rest (j, omega arith, e)

pub constants_same : {A B : Type 0} {Is : A → B → Type 0} (as' : List A) (bs : List B) → Aligned Is as' bs → length as' ≡ length bs
constants_same _ _ is.none = refl
constants_same _ _ (is.more {as' = xs} {bs = ys} i others) = ap suc (constants_same xs ys others)

-- The labels of a resolved switch are constants of its enum, each at most once.
pub are_cases : (program : Program) (core : Core.Program) (method : Core.Method) (enum : Source.Enum) (of : ℕ) (d : Core.Enum) →
    slice_get core.enums of ≡ Some d → is.EnumIs program core enum d →
    (scope : Scope) (p : Place) (e : Source.Expr) {sc : Scope} {ns : Numbers} (gs : Source.Groups) (gs' : Core.Groups) →
    IsGroups program core method enum sc ns gs gs' →
    Clean BadLabel (map (CaseAt scope p e) (behind [] (cases gs))) → AreCases core method of (labels_in gs')
are_cases program core method enum of d at means scope p e gs gs' g clean = record {
  enum = d;
  at = at;
  constants = λ n c. subst (λ count. n < count) (constants_same enum.constants d.constants means.constants)
      (labels_in_range program core enum (cases gs) (labels_in gs') (labels_aligned program core method enum g) n c);
  apart = labels_apart program core method enum gs gs' g (cases_fresh scope p e (behind [] (cases gs)) clean);
}
