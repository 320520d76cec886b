-- What is kept of each place is what the sights have there.
use Rattle.std.proofs.Common.{◌≡◌, ℕ, ◌+◌, ◌<◌, ◌≤◌, Bool, true, false, cond, ◌&&◌, List, [], ◌∷◌, ◌++◌, length, get_or, take, map, Option, Some, None}
use Rattle.std.proofs.Common.{refl, sym, ap, ◌∙◌, arith}
use Rattle.std.specs.Prelude.{◌||◌, nat_eq, if◌then◌else◌}
use Rattle.std.proofs.lemmas.Bool.{false≢true, eq-eqb}
use Rattle.std.proofs.lemmas.Bool.Decides.{nat_tests}
use Rattle.std.proofs.lemmas.List.{take_more, take_all, map-append, append-nil}
use Rattle.std.proofs.lemmas.List.Elements.{filter-append}
use Rattle.mg_text.specs.declared.place.Place.{Place}
use Rattle.use_rules.specs.Elements.{Set, union}
use Rattle.use_rules.specs.State.{Sight}
use Rattle.use_flow.specs.declared.out.Sight as kept
use Rattle.use_flow.specs.View.{sight_of}
use Rattle.use_sights.specs.Sights.{same_place, sights_at, together}
use Rattle.mg_shown.specs.declared.seen.PlaceKey.{PlaceKey}
use Rattle.mg_shown.specs.contracts.seen.PlaceKeyPartialEq.TheImpl as key
use Rattle.mg_shown.specs.inner.Seeing.{key_of, set_or_none, at_place, AreSeen, IsSeen}

-- Sets taken together.

or_grouped : (a b c : Bool) → (a || (b || c)) ≡ ((a || b) || c)
or_grouped true b c = refl
or_grouped false b c = refl

union_none : (s : Set) → union s [] ≡ s
union_none [] = refl
union_none (a ∷ s) = refl

union_grouped : (s t u : Set) → union s (union t u) ≡ union (union s t) u
union_grouped [] t u = refl
union_grouped (a ∷ s) [] u = refl
union_grouped (a ∷ s) (b ∷ t) [] = refl
union_grouped (a ∷ s) (b ∷ t) (c ∷ u) = ap (λ x. x ∷ union s (union t u)) (or_grouped a b c) ∙ ap (λ r. ((a || b) || c) ∷ r) (union_grouped s t u)

together_more : (ss : List Sight) (s : Sight) → together (ss ++ s ∷ []) ≡ union (together ss) s.set
together_more [] s = union_none s.set
together_more (x ∷ ss) s = ap (union x.set) (together_more ss s) ∙ union_grouped x.set (together ss) s.set

-- Places and their keys.

abbrev pub key_eq : PlaceKey → PlaceKey → Bool
key_eq = (key.ghosts).eq

same_number : (m n : ℕ) → nat_eq m n ≡ true → m ≡ n
same_number m n h = grind (arith, nat_tests)

turned : (m n : ℕ) → nat_eq m n ≡ nat_eq n m
turned m n = go (nat_eq m n) (nat_eq n m) refl refl
  where
    go : (a b : Bool) → nat_eq m n ≡ a → nat_eq n m ≡ b → nat_eq m n ≡ nat_eq n m
    go true b e f = e ∙ sym (ap (λ k. nat_eq n k) (same_number m n e) ∙ eq-eqb n n refl)
    go false true e f = ap (λ k. nat_eq m k) (same_number n m f) ∙ eq-eqb m m refl ∙ sym f
    go false false e f = e ∙ sym f

key_place : (q r : Place) → key_eq (key_of r) (key_of q) ≡ same_place q r
key_place q r =
    ap (λ b. b && (nat_eq r.line q.line && nat_eq r.column q.column)) (turned r.file q.file)
    ∙ ap (λ b. nat_eq q.file r.file && (b && nat_eq r.column q.column)) (turned r.line q.line)
    ∙ ap (λ b. nat_eq q.file r.file && (nat_eq q.line r.line && b)) (turned r.column q.column)

both : (a b : Bool) → (a && b) ≡ true → (a ≡ true) × (b ≡ true)
both true b h = (refl, h)
both false b h = absurd (false≢true h)

same_key : (q r : Place) → same_place q r ≡ true → key_of q ≡ key_of r
same_key q r h =
    let x = both (nat_eq q.file r.file) (nat_eq q.line r.line && nat_eq q.column r.column) h in
    let y = both (nat_eq q.line r.line) (nat_eq q.column r.column) x.1 in
    ap (λ (n : ℕ). record { file = n; line = q.line; column = q.column }) (same_number q.file r.file x.0)
    ∙ ap (λ (n : ℕ). record { file = r.file; line = n; column = q.column }) (same_number q.line r.line y.0)
    ∙ ap (λ (n : ℕ). record { file = r.file; line = r.line; column = n }) (same_number q.column r.column y.1)

-- One sight more.

module _ (s : Sight) (old new : PlaceKey → Option Set) where
  pub sight_noted : (v : Set) → v ≡ union (at_place old s.place) s.set →
      ((q : PlaceKey) → new q ≡ cond (key_eq (key_of s.place) q) (Some v) (old q)) → IsSeen s old new
  sight_noted v ev h = record { each = λ q. go q (same_place q s.place) refl }
    where
      go : (q : Place) (b : Bool) → same_place q s.place ≡ b →
          at_place new q ≡ (if same_place q s.place then union (at_place old q) s.set else at_place old q)
      go q true e =
          ap set_or_none (h (key_of q))
          ∙ ap (λ b. set_or_none (cond b (Some v) (old (key_of q)))) (key_place q s.place ∙ e)
          ∙ ev ∙ ap (λ (k : PlaceKey). union (set_or_none (old k)) s.set) (sym (same_key q s.place e))
          ∙ ap (λ b. if b then union (at_place old q) s.set else at_place old q) (sym e)
      go q false e =
          ap set_or_none (h (key_of q))
          ∙ ap (λ b. set_or_none (cond b (Some v) (old (key_of q)))) (key_place q s.place ∙ e)
          ∙ ap (λ b. if b then union (at_place old q) s.set else at_place old q) (sym e)

  seen_more : (ss : List Sight) → AreSeen ss old → IsSeen s old new → AreSeen (ss ++ s ∷ []) new
  seen_more ss seen one = record {
    each = λ q. one.each q ∙ go q (same_place q s.place) refl
        ∙ ap together (sym (filter-append (λ (x : Sight). same_place q x.place) ss (s ∷ [])));
  }
    where
      go : (q : Place) (b : Bool) → same_place q s.place ≡ b →
          (if same_place q s.place then union (at_place old q) s.set else at_place old q) ≡ together (sights_at q ss ++ sights_at q (s ∷ []))
      go q true e =
          ap (λ b. if b then union (at_place old q) s.set else at_place old q) e
          ∙ ap (λ r. union r s.set) (seen.each q) ∙ sym (together_more (sights_at q ss) s)
          ∙ ap (λ b. together (sights_at q ss ++ cond b (s ∷ []) [])) (sym e)
      go q false e =
          ap (λ b. if b then union (at_place old q) s.set else at_place old q) e
          ∙ seen.each q ∙ ap together (sym (append-nil (sights_at q ss)))
          ∙ ap (λ b. together (sights_at q ss ++ cond b (s ∷ []) [])) (sym e)

-- Sight by sight.

pub none_seen : (find : PlaceKey → Option Set) → ((k : PlaceKey) → find k ≡ None) → AreSeen [] find
none_seen find h = record { each = λ q. ap set_or_none (h (key_of q)) }

pub sight_seen : (ss : List kept.Sight) (i : ℕ) (s : kept.Sight) (old new : PlaceKey → Option Set) → i < length ss → s ≡ get_or ss i s →
    IsSeen (sight_of s) old new → AreSeen (map sight_of (take i ss)) old → AreSeen (map sight_of (take (i + 1) ss)) new
sight_seen ss i s old new lt at one seen = record {
  each = λ q. (seen_more (sight_of s) old new (map sight_of (take i ss)) seen one).each q
      ∙ ap (λ xs. together (sights_at q xs)) (sym (map-append sight_of (take i ss) (s ∷ [])))
      ∙ ap (λ (x : kept.Sight). together (sights_at q (map sight_of (take i ss ++ x ∷ [])))) at
      ∙ ap (λ xs. together (sights_at q (map sight_of xs))) (sym (take_more ss i s lt));
}

pub all_seen : (ss : List kept.Sight) (i : ℕ) (find : PlaceKey → Option Set) → length ss ≤ i → AreSeen (map sight_of (take i ss)) find →
    AreSeen (map sight_of ss) find
all_seen ss i find le seen = record { each = λ q. seen.each q ∙ ap (λ xs. together (sights_at q (map sight_of xs))) (take_all i ss le) }
