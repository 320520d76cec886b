-- Numbers tell pairs apart, and marks by them tell which pairs were met.
use Rattle.std.proofs.Common.{◌≡◌, ◌≢◌, ℕ, ◌+◌, ◌*◌, ◌^◌, ◌<◌, Bool, true, false, List, [], ◌∷◌, ◌++◌, length, map, Option, Some, None}
use Rattle.std.proofs.Common.{option_map, option_and_then, if◌then◌else◌, refl, sym, ap, subst, ◌∙◌, arith, inl, inr}
use Rattle.std.specs.Prelude.{nat_lt}
use Rattle.std.proofs.lemmas.Bool.{cases_eq, ltb-true, eq-eqb, ne_eqb}
use Rattle.std.proofs.lemmas.Option.{none-some}
use Rattle.std.proofs.lemmas.Nat.{same_from_place}
use Rattle.ts_tree.specs.declared.parts.To.{To}
use Rattle.ts_tree.specs.declared.parts.To.TheVariants as tos
use Rattle.ts_refine.specs.declared.verdict.Pair.{Pair}
use Rattle.ts_refine.specs.inner.Judging.{same_pair, holds}
use Rattle.ts_refine.specs.inner.Keeping.{Met}
use Rattle.ts_refine.specs.inner.Marking.{place_number, number, marked, AreMarked, AreRooted, IsSearch}
use Rattle.ts_refine.proofs.Relating.{some_is}
use Rattle.ts_refine.proofs.Closing.{same_pair-self, same_pair-sound}
use Rattle.ts_refine.proofs.Seeking.{get-push}

-- ---- numbers
pub if_some : {X : Type 0} (t : Bool) (x i : X) → (if t then Some x else None) ≡ Some i → (t ≡ true) × (x ≡ i)
if_some true x i h = (refl, some_is x i h)
if_some false x i h = absurd (none-some i h)

place_same : (count : ℕ) (p q : To) (i : ℕ) → place_number count p ≡ Some i → place_number count q ≡ Some i → p ≡ q
place_same count (tos.State m) (tos.State n) i h k =
    ap tos.State ((if_some (nat_lt m count) m i h).1 ∙ sym (if_some (nat_lt n count) n i k).1)
place_same count (tos.State m) tos.End i h k =
    let t = if_some (nat_lt m count) m i h in
    absurd (omega (arith, ltb-true m count t.0, t.1, some_is count i k))
place_same count tos.End (tos.State n) i h k =
    let t = if_some (nat_lt n count) n i k in
    absurd (omega (arith, ltb-true n count t.0, t.1, some_is count i h))
place_same count tos.End tos.End i h k = refl

place_most : (count : ℕ) (p : To) (i : ℕ) → place_number count p ≡ Some i → i < count + 1
place_most count (tos.State n) i h =
    let t = if_some (nat_lt n count) n i h in
    omega (arith, ltb-true n count t.0, t.1)
place_most count tos.End i h = omega (arith, some_is count i h)

record IsNumbered (a b : ℕ) (pair : Pair) (i : ℕ) : Type 0 where
  row : ℕ
  column : ℕ
  in_a : place_number a pair.a ≡ Some row
  in_b : place_number b pair.b ≡ Some column
  is : row * (b + 1) + column ≡ i

numbered : (a b : ℕ) (pair : Pair) (i : ℕ) → number a b pair ≡ Some i → IsNumbered a b pair i
numbered a b pair i h = rows (place_number a pair.a) refl h where
  columns : (row : ℕ) → place_number a pair.a ≡ Some row → (o : Option ℕ) → place_number b pair.b ≡ o →
      option_map (λ j. row * (b + 1) + j) o ≡ Some i → IsNumbered a b pair i
  columns row e (Some column) f k = record { row = row; column = column; in_a = e; in_b = f; is = some_is (row * (b + 1) + column) i k }
  columns row e None f k = absurd (none-some i k)

  rows : (o : Option ℕ) → place_number a pair.a ≡ o →
      option_and_then (λ i. option_map (λ j. i * (b + 1) + j) (place_number b pair.b)) o ≡ Some i → IsNumbered a b pair i
  rows (Some row) e k = columns row e (place_number b pair.b) refl k
  rows None e k = absurd (none-some i k)

-- pairs of one number are one
pub number_same : (a b : ℕ) (x y : Pair) (i : ℕ) → number a b x ≡ Some i → number a b y ≡ Some i → x ≡ y
number_same a b x y i h k =
    let s = numbered a b x i h in
    let t = numbered a b y i k in
    let e = same_from_place s.row s.column t.row t.column (b + 1) (place_most b x.b s.column s.in_b) (place_most b y.b t.column t.in_b)
    (s.is ∙ sym t.is) in
    ap (λ (p : To). record { a = p; b = x.b }) (place_same a x.a y.a s.row s.in_a (t.in_a ∙ ap Some (sym e.0)))
    ∙ ap (λ (q : To). record { a = y.a; b = q }) (place_same b x.b y.b s.column s.in_b (t.in_b ∙ ap Some (sym e.1)))

-- ---- marks
abbrev pub TellsApart : (Pair → Option ℕ) → Type 0
TellsApart slot = (x y : Pair) (i : ℕ) → slot x ≡ Some i → slot y ≡ Some i → x ≡ y

pub holds-push : (ps : List Pair) (x y : Pair) → holds (ps ++ x ∷ []) y ≡ (if holds ps y then true else same_pair x y)
holds-push [] x y = go (same_pair x y) where
  go : (t : Bool) → (if t then true else false) ≡ t
  go true = refl
  go false = refl
holds-push (p ∷ ps) x y = go (same_pair p y) (holds-push ps x y) where
  go : (t : Bool) → holds (ps ++ x ∷ []) y ≡ (if holds ps y then true else same_pair x y) →
      (if t then true else holds (ps ++ x ∷ []) y) ≡ (if (if t then true else holds ps y) then true else same_pair x y)
  go true e = refl
  go false e = e

or_false : (t : Bool) → (if t then true else false) ≡ t
or_false true = refl
or_false false = refl

or_true : (t : Bool) → (if t then true else true) ≡ true
or_true true = refl
or_true false = refl

not-true : (t : Bool) → (t ≡ true → ⊥) → t ≡ false
not-true true h = absurd (h refl)
not-true false h = refl

apart-pair : (x y : Pair) → (x ≡ y → ⊥) → same_pair x y ≡ false
apart-pair x y ne = not-true (same_pair x y) (λ t. ne (same_pair-sound x y t))

pub blank-marked : (slot : Pair → Option ℕ) (is_marked : ℕ → Bool) → ((i : ℕ) → is_marked i ≡ false) → AreMarked slot is_marked []
blank-marked slot is_marked blank = record { each = λ pair i e. blank i }

pub marked-more : (slot : Pair → Option ℕ) → TellsApart slot → (before after : ℕ → Bool) (pairs : List Pair) (x : Pair) (i : ℕ)
    → AreMarked slot before pairs → slot x ≡ Some i → after i ≡ true → ((k : ℕ) → k ≢ i → after k ≡ before k)
    → AreMarked slot after (pairs ++ x ∷ [])
marked-more slot apart before after pairs x i m at now kept = record {
  each = λ pair k e. elim (cases_eq k i) [
    | inl is ↦
        ap after is ∙ now
        ∙ sym (holds-push pairs x pair ∙ ap (λ (t : Bool). if holds pairs pair then true else t)
        (ap (same_pair x) (apart pair x i (e ∙ ap Some is) at) ∙ same_pair-self x) ∙ or_true (holds pairs pair))
    | inr ne ↦
        kept k ne ∙ m.each pair k e
        ∙ sym (holds-push pairs x pair ∙ ap (λ (t : Bool). if holds pairs pair then true else t)
        (apart-pair x pair (λ same. ne (some_is k i (sym e ∙ ap slot (sym same) ∙ at)))) ∙ or_false (holds pairs pair))
  ];
}

pub marked-past : (slot : Pair → Option ℕ) (is_marked : ℕ → Bool) (pairs : List Pair) (x : Pair) → AreMarked slot is_marked pairs
    → slot x ≡ None → AreMarked slot is_marked (pairs ++ x ∷ [])
marked-past slot is_marked pairs x m none = record {
  each = λ pair k e.
      m.each pair k e
      ∙ sym (holds-push pairs x pair ∙ ap (λ (t : Bool). if holds pairs pair then true else t)
      (apart-pair x pair (λ same. none-some k (sym none ∙ ap slot same ∙ e))) ∙ or_false (holds pairs pair));
}

-- ---- what was met
pairs-met : (ms : List Met) (m : Met) → map (λ (m : Met). m.pair) (ms ++ m ∷ []) ≡ map (λ (m : Met). m.pair) ms ++ m.pair ∷ []
pairs-met [] m = refl
pairs-met (x ∷ ms) m = ap (λ (ps : List Pair). x.pair ∷ ps) (pairs-met ms m)

rooted-more : (ms : List Met) (m : Met) → AreRooted ms → (0 < length ms → m.parent < length ms) → AreRooted (ms ++ m ∷ [])
rooted-more ms m r fine = record {
  each = λ i n e some. elim (get-push ms m i n e) [
    | inl old ↦ r.each i n old some
    | inr new ↦ subst (λ (n : Met). n.parent < i) new.1 (subst (λ k. m.parent < k) (sym new.0) (fine (subst (λ k. 0 < k) new.0 some)))
  ];
}

rooted-none : AreRooted []
rooted-none = record { each = λ i m e some. absurd (none-some m e) }

is-marked : (slot : Pair → Option ℕ) (before after : ℕ → Bool) (pairs : List Pair) → AreMarked slot before pairs
    → ((k : ℕ) → after k ≡ before k) → AreMarked slot after pairs
is-marked slot before after pairs m same = record { each = λ pair i e. same i ∙ m.each pair i e }

pub search-blank : (a b : ℕ) (is : ℕ → Bool) (ms : List Met) → a < 2 ^ 32 → b < 2 ^ 32 → ((n : ℕ) → is n ≡ false) → ms ≡ []
    → IsSearch a b is ms
search-blank a b is ms h k blank none = record {
  few_a = h;
  few_b = k;
  marked = subst (λ (ms : List Met). AreMarked (number a b) is (map (λ (m : Met). m.pair) ms)) (sym none)
      (blank-marked (number a b) is blank);
  rooted = subst AreRooted (sym none) rooted-none;
}

pairs-more : (a b : ℕ) (before after : ℕ → Bool) (pairs : List Pair) (pair : Pair) (o : Option ℕ) → AreMarked (number a b) before pairs
    → number a b pair ≡ o → ((k : ℕ) → after k ≡ marked before o k) → AreMarked (number a b) after (pairs ++ pair ∷ [])
pairs-more a b before after pairs pair None m of step =
    is-marked (number a b) before after (pairs ++ pair ∷ []) (marked-past (number a b) before pairs pair m of) step
pairs-more a b before after pairs pair (Some i) m of step =
    marked-more (number a b) (number_same a b) before after pairs pair i m of (step i ∙ ap (λ (t : Bool). if t then true else before i)
    (eq-eqb i i refl))
    (λ k ne. step k ∙ ap (λ (t : Bool). if t then true else before k) (ne_eqb i k (λ e. ne (sym e))))

pub search-kept : (a b : ℕ) (before after : ℕ → Bool) (ms news : List Met) (m : Met) (o : Option ℕ) → IsSearch a b before ms
    → (0 < length ms → m.parent < length ms) → news ≡ ms ++ m ∷ [] → o ≡ number a b m.pair → ((k : ℕ) → after k ≡ marked before o k)
    → IsSearch a b after news
search-kept a b before after ms news m o s fine is of step = subst (IsSearch a b after) (sym is) (record {
  few_a = s.few_a;
  few_b = s.few_b;
  marked = subst (AreMarked (number a b) after) (sym (pairs-met ms m)) (pairs-more a b before after (map (λ (m : Met). m.pair) ms) m.pair o
      s.marked (sym of) step);
  rooted = rooted-more ms m s.rooted fine;
})

-- what is marked was met
pub marked-is : (a b : ℕ) (is : ℕ → Bool) (ms : List Met) (pair : Pair) (o : Option ℕ) (i : ℕ) → IsSearch a b is ms
    → o ≡ number a b pair → o ≡ Some i → is i ≡ holds (map (λ (m : Met). m.pair) ms) pair
marked-is a b is ms pair o i s of some = s.marked.each pair i (sym of ∙ some)
