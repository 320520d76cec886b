-- Judging a table: the first answer of its rows.
use Rattle.std.proofs.Common.{◌≡◌, ◌↔◌, ◌⊎◌, ⊎_elim, inl, inr, ℕ, ◌+◌, ◌<◌, ◌≤◌, nat_lt, Bool, true, false, ◌&&◌, ◌||◌, IsTrue, List, []}
use Rattle.std.proofs.Common.{◌∷◌, ◌++◌, length, get_or, drop, map, Contains, Option, Some, None, refl, sym, ap, subst, ◌∙◌, true≢false}
use Rattle.std.proofs.Common.{arith, codes}
use Rattle.std.specs.List.{flat_map}
use Rattle.std.specs.Option.{option_or, is_some}
use Rattle.std.specs.Str.{bytes_eq}
use Rattle.std.proofs.lemmas.List.{at_drop_more, at_drop_all}
use Rattle.std.proofs.lemmas.Bool.Decides.{nat_tests}
use Rattle.std.proofs.lemmas.Grind.{common_steps}
use Rattle.std.proofs.lemmas.Slice.Eq.{bytes_eq-Decides}
use Rattle.mg_text.specs.Call.{Name}
use Rattle.mg_text.specs.declared.place.Place.{Place}
use Rattle.mg_read.specs.Culprit.{Culprit, culprit}
use Rattle.mg_read.specs.First.{Judged, clean, here, later}
use Rattle.mg_read.proofs.Judging.{judged-append, judged-found, judged-map}
use Rattle.scr_tree.specs.declared.written.Carries.{Carries as Kept}
use Rattle.scr_tree.specs.declared.written.Declaration.{Declaration}
use Rattle.scr_tree.specs.Written.{carries_of, class_beforehand, kind_of_class}
use Rattle.scr_tree.specs.Listing.{declared, carried, carried_by, IsSupported, IsDeclared, UnknownType, PayloadCount}
use Rattle.scr_judge.specs.inner.Seen.{Names}
use Rattle.scr_judge.specs.inner.Listed.{alias_of, first_among, is_supported, unsupported, is_declared, undeclared, undeclared_in, many}
use Rattle.scr_judge.specs.inner.OnSpot.{unless}
use Rattle.scr_judge.proofs.Members.{Contains-image, Contains-origin}
use Rattle.scr_judge.proofs.SpotWalk.{Answers}
use Rattle.scr_judge.proofs.Asking.{unless_right}

-- the loop
module _ {X : Type 0} (f : X → Option Culprit) (xs : List X) (i : ℕ) where
  pub first_more : (x : X) → i < length xs → x ≡ get_or xs i x → first_among f (drop i xs) ≡ option_or (f x)
      (first_among f (drop (i + 1) xs))
  first_more x within is = at_drop_more (first_among f) xs i x within ∙ ap (λ y. option_or (f y) (first_among f (drop (i + 1) xs))) (sym is)

  pub first_past : length xs ≤ i → first_among f (drop i xs) ≡ None
  first_past h = at_drop_all (first_among f) xs i h

pub ruleset steps = (common_steps, first_more, first_past, nat_tests)

pub row : {X : Type 0} (At : X → Culprit → Type 0) (x : X) (xs : List X) (o r : Option Culprit) → Answers (At x) o → Judged At xs r →
    Judged At (x ∷ xs) (option_or o r)
row At x xs None r a j = later a j
row At x xs (Some c) r a j = here a

-- a table whose rows are answered rightly
pub table : {X : Type 0} (At : X → Culprit → Type 0) (f : X → Option Culprit) → ((x : X) → Answers (At x) (f x)) → (xs : List X) →
    Judged At xs (first_among f xs)
table At f right [] = clean
table At f right (x ∷ xs) = row At x xs (f x) (first_among f xs) (right x) (table At f right xs)

-- ---- the rows

both_of : (a b : Bool) → (a && b) ≡ true → (a ≡ true) × (b ≡ true)
both_of true b e = (refl, e)
both_of false b e = absurd (true≢false (sym e))

both_so : (a b : Bool) → a ≡ true → b ≡ true → (a && b) ≡ true
both_so a b e f = ap (λ x. x && b) e ∙ f

some_to : {X : Type 0} (o : Option X) → is_some o ≡ true → o ≡ None → ⊥
some_to None e n = true≢false (sym e)
some_to (Some x) e n = cc

some_from : {X : Type 0} (o : Option X) → (o ≡ None → ⊥) → is_some o ≡ true
some_from None n = absurd (n refl)
some_from (Some x) n = refl

supported_row : (types : List Declaration) (d : Declaration) → Answers (UnknownType types (declared d)) (unsupported d)
supported_row types d =
    unless_right (IsSupported d) (is_supported d) (culprit d.place d.alias)
    (λ e. let h = both_of (bytes_eq d.language (codes "java")) (is_some (kind_of_class d.class)) e in
    ((bytes_eq-Decides d.language (codes "java")).0 h.0, some_to (kind_of_class d.class) h.1))
    (λ h. both_so (bytes_eq d.language (codes "java")) (is_some (kind_of_class d.class))
    ((bytes_eq-Decides d.language (codes "java")).1 h.0) (some_from (kind_of_class d.class) h.1))

either_of : (a b : Bool) → (a || b) ≡ true → (a ≡ true) ⊎ (b ≡ true)
either_of true b e = inl refl
either_of false b e = inr e

left_so : (a b : Bool) → a ≡ true → (a || b) ≡ true
left_so a b e = ap (λ x. x || b) e

right_so : (a b : Bool) → b ≡ true → (a || b) ≡ true
right_so true b e = refl
right_so false b e = e

module _ (types : List Declaration) (aliases : Names) (h : (q : Name) → IsTrue (aliases q) ↔ Contains (map alias_of types) q) where
  declared_to : (type : Name) → is_declared aliases type ≡ true → IsDeclared types type
  declared_to type e =
      ⊎_elim (λ b. inl (some_to (class_beforehand type) b)) (λ a. let o = Contains-origin alias_of types type ((h type).0 a) in inr
      (o.0, o.1, o.2))
      (either_of (is_some (class_beforehand type)) (aliases type) e)

  declared_from : (type : Name) → IsDeclared types type → is_declared aliases type ≡ true
  declared_from type (inl n) = left_so _ (aliases type) (some_from (class_beforehand type) n)
  declared_from type (inr o) = right_so (is_some (class_beforehand type)) (aliases type)
      ((h type).1 (subst (Contains (map alias_of types)) o.2 (Contains-image alias_of types o.0 o.1)))

  declared_row : (place : Place) (type : Name) → Answers (UnknownType types (carried place type)) (undeclared aliases place type)
  declared_row place type = unless_right (IsDeclared types type) (is_declared aliases type) (culprit place type) (declared_to type)
      (declared_from type)

  carried_row : (m : Kept) → Judged (UnknownType types) (carried_by (carries_of m)) (undeclared_in aliases m)
  carried_row m = judged-map (carried m.place) (λ x c a. a) (λ x c a. a) (table (λ type. UnknownType types (carried m.place type))
      (undeclared aliases m.place) (declared_row m.place) m.types.items)

-- first the declarations are judged, and then what messages carry
pub unknown_type : (types : List Declaration) (ms : List Kept) (aliases : Names) →
    ((q : Name) → IsTrue (aliases q) ↔ Contains (map alias_of types) q) → (r : Option Culprit) →
    None ≡ first_among unsupported types → r ≡ first_among (undeclared_in aliases) ms →
    Judged (UnknownType types) (map declared types ++ flat_map carried_by (map carries_of ms)) r
unknown_type types ms aliases h r none e =
    judged-append
    (judged-map declared (λ d c a. a) (λ d c a. a) (subst (Judged (λ d. UnknownType types (declared d)) types) (sym none)
    (table (λ d. UnknownType types (declared d)) unsupported (supported_row types) types)))
    (subst (Judged (UnknownType types) (flat_map carried_by (map carries_of ms))) (sym e) (rows ms))
  where
    rows : (ms : List Kept) → Judged (UnknownType types) (flat_map carried_by (map carries_of ms)) (first_among (undeclared_in aliases) ms)
    rows [] = clean
    rows (m ∷ ms) = judged-append (carried_row types aliases h m) (rows ms)

-- a declaration is at fault
pub unknown_declaration : (types : List Declaration) (ms : List Kept) (c : Culprit) → Some c ≡ first_among unsupported types →
    Judged (UnknownType types) (map declared types ++ flat_map carried_by (map carries_of ms)) (Some c)
unknown_declaration types ms c e =
    judged-found (flat_map carried_by (map carries_of ms)) (judged-map declared (λ d k a. a) (λ d k a. a)
    (subst (Judged (λ d. UnknownType types (declared d)) types) (sym e) (table (λ d. UnknownType types (declared d)) unsupported
    (supported_row types) types)))

pub declarations_at_fault : (types : List Declaration) (c : Culprit) → Some c ≡ first_among unsupported types →
    Judged (UnknownType types) (map declared types) (Some c)
declarations_at_fault types c e =
    judged-map declared (λ d k a. a) (λ d k a. a)
    (subst (Judged (λ d. UnknownType types (declared d)) types) (sym e) (table (λ d. UnknownType types (declared d)) unsupported
    (supported_row types) types))

many_row : (m : Kept) → Answers (PayloadCount (carries_of m)) (many m)
many_row m = go (nat_lt (length m.types.items) 2) refl
  where
    go : (b : Bool) → nat_lt (length m.types.items) 2 ≡ b → Answers (PayloadCount (carries_of m)) (unless b (culprit m.place []))
    go true e = λ c x. let few : length m.types.items < 2 = grind (arith, nat_tests) in omega (arith, few, x.1)
    go false e = (refl, grind (arith, nat_tests))

pub payload_count : (ms : List Kept) → Judged PayloadCount (map carries_of ms) (first_among many ms)
payload_count ms = judged-map carries_of (λ m c a. a) (λ m c a. a) (table (λ m. PayloadCount (carries_of m)) many many_row ms)
