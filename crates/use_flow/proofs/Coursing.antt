-- Where scopes end, and what jumps.
use Rattle.std.proofs.Common.{◌≡◌, ℕ, zero, suc, ◌+◌, ◌<◌, ◌≤◌, Bool, true, false, not, List, [], ◌∷◌, ◌++◌, length, get_or, drop, reverse}
use Rattle.std.proofs.Common.{Some, None, refl, sym, ap, ◌∙◌, arith, append_assoc}
use Rattle.std.specs.Prelude.{◌||◌, nat_eq, slice_set, if◌then◌else◌}
use Rattle.std.specs.List.{filter, list_any}
use Rattle.std.proofs.lemmas.List.{at_drop_more, at_drop_all, reverse-append}
use lib.Dec.{eqb-zero-suc, eqb-suc-zero, eqb-suc-suc}
use Rattle.mg_text.specs.declared.place.Place.{Place}
use Rattle.mg_sets.specs.Sets.{has}
use Rattle.use_flow.specs.declared.jumps.Jumps.{Jumps}
use Rattle.use_flow.specs.declared.course.Course.{Course}
use Rattle.use_rules.specs.Elements.{Set, marked, none}
use Rattle.use_rules.specs.Flow.{flow}
use Rattle.use_rules.specs.State.{Now, Log, Leads, same_lead, Jump, Flow, joined, leaving}
use Rattle.use_flow.specs.View.{log_of}
use Rattle.use_flow.specs.inner.Followed.{Followed}
use Rattle.use_flow.specs.inner.Jumping.{held}
use Rattle.use_flow.specs.inner.Simple.{exit}
use Rattle.use_flow.specs.inner.Stepping.{Follows, jump_flow}
use Rattle.use_elements.proofs.Rests.{append_nil}
use Rattle.use_flow.proofs.Jumping.{nat_turned, same_turned, joined-none}

-- Which slots are left.

any_turned : (k : ℕ) (ys : List ℕ) → list_any (λ y. nat_eq y k) ys ≡ list_any (nat_eq k) ys
any_turned k [] = refl
any_turned k (y ∷ ys) = ap (λ b. b || list_any (λ y. nat_eq y k) ys) (nat_turned y k) ∙ ap (λ b. nat_eq k y || b) (any_turned k ys)

-- Which slots stay, as a set.

or_none : (a : Bool) → (a || false) ≡ a
or_none true = refl
or_none false = refl

set_length : (s : Set) (k : ℕ) → length (slice_set s k true) ≡ length s
set_length [] k = refl
set_length (b ∷ s) zero = refl
set_length (b ∷ s) (suc k) = ap suc (set_length s k)

set_has : (s : Set) (k n : ℕ) → n < length s → has (slice_set s k true) n ≡ (nat_eq n k || has s n)
set_has [] k n lt = absurd (omega (arith, lt))
set_has (b ∷ s) zero zero lt = refl
set_has (b ∷ s) zero (suc n) lt = sym (ap (λ v. v || has s n) (eqb-suc-zero n))
set_has (b ∷ s) (suc k) zero lt = sym (ap (λ v. v || b) (eqb-zero-suc k))
set_has (b ∷ s) (suc k) (suc n) lt = set_has s k n (omega (arith, lt)) ∙ sym (ap (λ v. v || has s n) (eqb-suc-suc n k))

marked_length : (ks : List ℕ) (s : Set) → length (marked ks s) ≡ length s
marked_length [] s = refl
marked_length (k ∷ ks) s = marked_length ks (slice_set s k true) ∙ set_length s k

none_length : (w : ℕ) → length (none w) ≡ w
none_length zero = refl
none_length (suc w) = ap suc (none_length w)

none_has : (w n : ℕ) → has (none w) n ≡ false
none_has zero n = refl
none_has (suc w) zero = refl
none_has (suc w) (suc n) = none_has w n

marked_has : (ks : List ℕ) (s : Set) (n : ℕ) → n < length s → has (marked ks s) n ≡ (list_any (nat_eq n) ks || has s n)
marked_has [] s n lt = refl
marked_has (k ∷ ks) s n lt =
    marked_has ks (slice_set s k true) n (let e : length (slice_set s k true) ≡ length s = set_length s k in omega (arith, lt, e))
    ∙ ap (λ b. list_any (nat_eq n) ks || b) (set_has s k n lt)
    ∙ or_around (list_any (nat_eq n) ks) (nat_eq n k) (has s n)
  where
    or_around : (a b c : Bool) → (a || (b || c)) ≡ ((b || a) || c)
    or_around true true c = refl
    or_around true false c = refl
    or_around false true c = refl
    or_around false false c = refl

pub mark_more : (ks : List ℕ) (i k : ℕ) (s s' total : Set) → i < length ks → k ≡ get_or ks i k → s' ≡ slice_set s k true →
    marked (drop i ks) s ≡ total →
    marked (drop (i + 1) ks) s' ≡ total
mark_more ks i k s s' total lt at e h =
    ap (marked (drop (i + 1) ks)) e ∙ sym (at_drop_more (λ (xs : List ℕ). marked xs s) ks i k lt ∙ ap (λ x. marked (x ∷ drop (i + 1) ks) s)
    (sym at)) ∙ h

pub all_marked : (ks : List ℕ) (i w : ℕ) (s : Set) → length ks ≤ i → marked (drop i ks) s ≡ marked ks (none w) →
    s ≡ marked ks (none (length s))
all_marked ks i w s le h =
    let e : s ≡ marked ks (none w) = sym (at_drop_all (λ (xs : List ℕ). marked xs s) ks i le) ∙ h in
    e ∙ ap (λ n. marked ks (none n)) (sym (ap length e ∙ marked_length ks (none w) ∙ none_length w))

pub ruleset stays = (mark_more, all_marked)

pub member_stays : (ks : List ℕ) (s : Set) (n : ℕ) → s ≡ marked ks (none (length s)) → n < length s → has s n ≡ list_any (nat_eq n) ks
member_stays ks s n e lt =
    ap (λ x. has x n) e
    ∙ marked_has ks (none (length s)) n (let l : length (none (length s)) ≡ length s = none_length (length s) in omega (arith, lt, l))
    ∙ ap (λ b. list_any (nat_eq n) ks || b) (none_has (length s) n) ∙ or_none (list_any (nat_eq n) ks)

pub searched_stays : (k : ℕ) (ys : List ℕ) (b : Bool) → b ≡ list_any (λ y. nat_eq y k) ys → b ≡ list_any (nat_eq k) ys
searched_stays k ys b e = e ∙ any_turned k ys

pub ruleset members = (member_stays, searched_stays)

abbrev goes : List ℕ → ℕ → Bool
goes stays k = not (list_any (nat_eq k) stays)

module _ (p : ℕ → Bool) where
  filter_with : (x : ℕ) (xs : List ℕ) → p x ≡ true → filter p (x ∷ xs) ≡ x ∷ filter p xs
  filter_with x xs h = rw h refl

  filter_past : (x : ℕ) (xs : List ℕ) → p x ≡ false → filter p (x ∷ xs) ≡ filter p xs
  filter_past x xs h = rw h refl

  filter_one : (x : ℕ) (xs : List ℕ) → filter p (xs ++ x ∷ []) ≡ filter p xs ++ filter p (x ∷ [])
  filter_one x [] = refl
  filter_one x (z ∷ xs) = go (filter_one x xs) (p z) refl
    where
      go : filter p (xs ++ x ∷ []) ≡ filter p xs ++ filter p (x ∷ []) → (b : Bool) → p z ≡ b → filter p (z ∷ (xs ++ x ∷ [])) ≡ filter p
          (z ∷ xs) ++ filter p (x ∷ [])
      go ih true v = filter_with z (xs ++ x ∷ []) v ∙ ap (λ r. z ∷ r) ih ∙ ap (λ r. r ++ filter p (x ∷ [])) (sym (filter_with z xs v))
      go ih false v = filter_past z (xs ++ x ∷ []) v ∙ ih ∙ ap (λ r. r ++ filter p (x ∷ [])) (sym (filter_past z xs v))

  filter_turned : (xs : List ℕ) → reverse (filter p (reverse xs)) ≡ filter p xs
  filter_turned [] = refl
  filter_turned (x ∷ xs) =
      ap (λ ys. reverse (filter p ys)) (reverse-append (x ∷ []) xs)
      ∙ ap reverse (filter_one x (reverse xs))
      ∙ reverse-append (filter p (reverse xs)) (filter p (x ∷ []))
      ∙ ap (λ r. reverse (filter p (x ∷ [])) ++ r) (filter_turned xs)
      ∙ go (p x) refl
    where
      go : (v : Bool) → p x ≡ v → reverse (filter p (x ∷ [])) ++ filter p xs ≡ filter p (x ∷ xs)
      go true v = ap (λ r. reverse r ++ filter p xs) (filter_with x [] v) ∙ sym (filter_with x xs v)
      go false v = ap (λ r. reverse r ++ filter p xs) (filter_past x [] v) ∙ sym (filter_past x xs v)

module _ (xs stays : List ℕ) (i k : ℕ) (done total : List ℕ) (lt : i < length xs) (at : k ≡ get_or xs i k) where
  rest_at : filter (goes stays) (drop i xs) ≡ filter (goes stays) (k ∷ drop (i + 1) xs)
  rest_at = at_drop_more (filter (goes stays)) xs i k lt ∙ ap (λ z. filter (goes stays) (z ∷ drop (i + 1) xs)) (sym at)

  pub slot_stays : (b : Bool) → b ≡ list_any (nat_eq k) stays → b ≡ true → done ++ filter (goes stays) (drop i xs) ≡ total →
      done ++ filter (goes stays) (drop (i + 1) xs) ≡ total
  slot_stays b e h r =
      ap (λ z. done ++ z) (sym (rest_at ∙ filter_past (goes stays) k (drop (i + 1) xs) (ap not (sym e ∙ h)))) ∙ r

  pub slot_left : (done' : List ℕ) (b : Bool) → b ≡ list_any (nat_eq k) stays → b ≡ false → done' ≡ done ++ k ∷ [] →
      done ++ filter (goes stays) (drop i xs) ≡ total → done' ++ filter (goes stays) (drop (i + 1) xs) ≡ total
  slot_left done' b e h d r =
      ap (λ z. z ++ filter (goes stays) (drop (i + 1) xs)) d ∙ append_assoc done (k ∷ []) (filter (goes stays) (drop (i + 1) xs))
      ∙ ap (λ z. done ++ z) (sym (rest_at ∙ filter_with (goes stays) k (drop (i + 1) xs) (ap not (sym e ∙ h)))) ∙ r

pub all_left : (xs stays : List ℕ) (i : ℕ) (done : List ℕ) → length xs ≤ i → done ++ filter (goes stays) (drop i xs) ≡ filter (goes stays)
    xs →
    done ≡ leaving (reverse xs) stays
all_left xs stays i done le r =
    sym (append_nil done) ∙ ap (λ z. done ++ z) (sym (at_drop_all (filter (goes stays)) xs i le)) ∙ r ∙ sym (filter_turned (goes stays) xs)

or_both : (a b : Bool) → (a || (b || false)) ≡ (b || a)
or_both true true = refl
or_both true false = refl
or_both false true = refl
or_both false false = refl

or_moved : (a b c : Bool) → ((a || b) || c) ≡ (a || (b || c))
or_moved true b c = refl
or_moved false b c = refl

any_append : (p : ℕ → Bool) (xs ys : List ℕ) → list_any p (xs ++ ys) ≡ (list_any p xs || list_any p ys)
any_append p [] ys = refl
any_append p (x ∷ xs) ys = ap (λ b. p x || b) (any_append p xs ys) ∙ sym (or_moved (p x) (list_any p xs) (list_any p ys))

any_reverse : (p : ℕ → Bool) (xs : List ℕ) → list_any p (reverse xs) ≡ list_any p xs
any_reverse p [] = refl
any_reverse p (x ∷ xs) =
    ap (list_any p) (reverse-append (x ∷ []) xs) ∙ any_append p (reverse xs) (x ∷ []) ∙ ap (λ b. b || (p x || false)) (any_reverse p xs) ∙
    or_both (list_any p xs) (p x)

filter_same : (p q : ℕ → Bool) → ((k : ℕ) → p k ≡ q k) → (xs : List ℕ) → filter p xs ≡ filter q xs
filter_same p q e [] = refl
filter_same p q e (x ∷ xs) = go (filter_same p q e xs) (q x) refl
  where
    go : filter p xs ≡ filter q xs → (b : Bool) → q x ≡ b → filter p (x ∷ xs) ≡ filter q (x ∷ xs)
    go ih true v = filter_with p x xs (e x ∙ v) ∙ ap (λ r. x ∷ r) ih ∙ sym (filter_with q x xs v)
    go ih false v = filter_past p x xs (e x ∙ v) ∙ ih ∙ sym (filter_past q x xs v)

-- what stays is asked for by number alone
pub leaving-turned : (scope ys : List ℕ) → leaving scope (reverse ys) ≡ leaving scope ys
leaving-turned scope ys = ap reverse (filter_same (goes (reverse ys)) (goes ys) (λ k. ap not (any_reverse (nat_eq k) ys)) scope)

-- Jumps.

one_caught : (v : Bool) (before now : Now) → (if v then joined before now else before) ≡ joined before (if v then joined now None else None)
one_caught true before now = ap (joined before) (sym (joined-none now))
one_caught false before now = sym (joined-none before)

pub jump_follows : (s : Followed) (q : Place) (to : Leads) (sc stays left : List ℕ) (sets : List Set) (log : Log) (scope : List ℕ)
    (j : Jumps) (now : Now) (c : Course) →
    left ≡ leaving sc stays → ((js : List Jump) → flow now js (log_of c.log) ≡ exit s q left (flow (Some sets) js log)) →
    ((at : Leads) → held c.jumps at ≡ (if same_lead to at then joined (held j at) now else held j at)) → c.scope.items ≡ scope →
    Follows (jump_flow s q to sc stays sets log) scope j None c
jump_follows s q to sc stays left sets log scope j now c el ex h es =
    let e : flow now [] (log_of c.log) ≡ exit s q (leaving sc stays) (flow (Some sets) [] log) =
    ex [] ∙ ap (λ ks. exit s q ks (flow (Some sets) [] log)) el in
    record {
      now-is = refl;
      log-is = ap (λ (f : Flow). f.log) e;
      scope-is = es;
      jumps = λ at. h at ∙ ap (λ v. if v then joined (held j at) now else held j at) (same_turned to at) ∙ one_caught (same_lead at to)
          (held j at) now
          ∙ ap (λ (f : Flow). joined (held j at) (if same_lead at to then joined f.now None else None)) e;
    }

pub ruleset jumps = (jump_follows)
