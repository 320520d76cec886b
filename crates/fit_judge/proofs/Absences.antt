-- A role that isn't among some names, as the conditions say it.
use Rattle.std.proofs.Common.{◌≡◌, ◌↔◌, ℕ, ◌+◌, ◌<◌, ◌≤◌, zero, suc, Bool, true, false, IsTrue, List, [], ◌∷◌, length, get_or, drop, Contains, Option, Some}
use Rattle.std.proofs.Common.{None, refl, sym, ap, ◌∙◌, subst, arith, true≢false}
use Rattle.std.proofs.lemmas.List.{at_drop_more, at_drop_all}
use Rattle.mg_text.specs.Call.{Name}
use Rattle.mg_text.specs.declared.place.Place.{Place}
use Rattle.mg_read.specs.First.{Judged, clean, here, later}
use Rattle.mg_read.proofs.Judging.{judged-same}
use Rattle.mg_refusal.specs.Refusals.{Refusal, refusal_at}
use Rattle.mg_fits.specs.Parts.{Headed, header}
use Rattle.fit_judge.specs.inner.Absent.{IsAbsent}

some_at : {X : Type 0} (xs : List X) (i : ℕ) → i < length xs → (x : X) × (x ≡ get_or xs i x)
some_at [] i low = absurd (omega (arith, low))
some_at (x ∷ xs) zero low = (x, refl)
some_at (x ∷ xs) (suc i) low = let w = some_at xs i (omega (arith, low)) in (w.0, w.1)

false_of : (b : Bool) → (b ≡ true → ⊥) → b ≡ false
false_of true h = absurd (h refl)
false_of false h = refl

-- the test is that of a list
pub absent_as : (kind : Name) (has : Name → Bool) (names : List Name) → ((q : Name) → IsTrue (has q) ↔ Contains names q) →
    {xs : List Headed} {r : Option Refusal} → Judged (IsAbsent kind has) xs r →
    Judged (λ (headed : Headed) (r : Refusal). (Contains names headed.role → ⊥) × (r ≡ refusal_at kind headed.place headed.role)) xs r
absent_as kind has names same = judged-same
    (λ headed r a. ((λ c. true≢false (sym ((same headed.role).1 c) ∙ a.0)), a.1))
    (λ headed r a. (false_of (has headed.role) (λ e. a.0 ((same headed.role).0 e)), a.1))

-- the header at an index
pub header_more : (roles : List Name) (places : List Place) (i : ℕ) (role : Name) (place : Place) → length places ≡ length roles →
    i < length roles → role ≡ get_or roles i role → place ≡ get_or places i place →
    header (drop i roles) (drop i places) ≡ record { role = role; place = place } ∷ header (drop (i + 1) roles) (drop (i + 1) places)
header_more roles places i role place same within is stands =
    ap (λ (z : List Name). header z (drop i places))
    (at_drop_more (λ (z : List Name). z) roles i role within ∙ ap (λ (r : Name). r ∷ drop (i + 1) roles) (sym is))
    ∙ ap (header (role ∷ drop (i + 1) roles))
    (at_drop_more (λ (z : List Place). z) places i place (subst (λ n. i < n) (sym same) within)
    ∙ ap (λ (p : Place). p ∷ drop (i + 1) places) (sym stands))

module _ (At : Headed → Refusal → Type 0) (roles : List Name) (places : List Place) (i : ℕ) (total : List Headed)
    (same : length places ≡ length roles)
    (h : (r : Option Refusal) → Judged At (header (drop i roles) (drop i places)) r → Judged At total r) where
  pub header_end : length roles ≤ i → Judged At total None
  header_end le =
      h None (subst (λ (z : List Headed). Judged At z None)
      (sym (ap (λ (z : List Name). header z (drop i places)) (at_drop_all (λ (z : List Name). z) roles i le))) clean)

  -- whatever place the role has
  pub header_past : (role : Name) → i < length roles → role ≡ get_or roles i role →
      ((place : Place) (r : Refusal) → At (record { role = role; place = place }) r → ⊥) →
      (r : Option Refusal) → Judged At (header (drop (i + 1) roles) (drop (i + 1) places)) r → Judged At total r
  header_past role within is n r j =
      let w = some_at places i (subst (λ n. i < n) (sym same) within) in
      h r (subst (λ (z : List Headed). Judged At z r) (sym (header_more roles places i role w.0 same within is w.1)) (later (n w.0) j))

  pub header_any : (role : Name) → i < length roles → role ≡ get_or roles i role → (r : Refusal) →
      ((place : Place) → At (record { role = role; place = place }) r) → Judged At total (Some r)
  header_any role within is r a =
      let w = some_at places i (subst (λ n. i < n) (sym same) within) in
      h (Some r) (subst (λ (z : List Headed). Judged At z (Some r)) (sym (header_more roles places i role w.0 same within is w.1)) (here (a w.0)))

  module _ (role : Name) (place : Place) (within : i < length roles) (is : role ≡ get_or roles i role)
      (stands : place ≡ get_or places i place) where
    pub header_here : (r : Refusal) → At (record { role = role; place = place }) r → Judged At total (Some r)
    header_here r a =
        h (Some r) (subst (λ (z : List Headed). Judged At z (Some r)) (sym (header_more roles places i role place same within is stands))
        (here a))
