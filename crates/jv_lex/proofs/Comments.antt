-- Comments: the first escape of Unicode in one.
use Rattle.std.proofs.Common.{◌≡◌, ℕ, suc, ◌+◌, List, [], ◌∷◌, ◌++◌, length, Bool, true, false, eqb, Option, Some, None, refl}
use Rattle.std.proofs.Common.{sym, ap, ◌∙◌, subst, inl, inr, ◌⊎◌, append_assoc, arith}
use Rattle.std.specs.Prelude.{option_map, ◌&&◌, not}
use Rattle.std.proofs.lemmas.Bool.{eqb-true}
use Rattle.std.proofs.lemmas.List.{append-nil}
use Rattle.mg_read.proofs.Steps.{none_is_not, chosen, some_is}
use Rattle.mg_read.proofs.Spans.{map_some}
use Rattle.jv_lex.specs.Comments.{EndsEven, empty, other, two_more, HasNoUnicode, FirstUnicode}
use Rattle.jv_lex.specs.inner.Front.{unicode_at}

-- ---- backslashes

-- whether a backslash that may begin an escape ends the bytes, where the test says so of those in front
abbrev begun : Bool → List ℕ → Bool
begun b [] = b
begun b (c ∷ cs) = begun (not b && eqb c 92) cs

begun_append : (b : Bool) (xs ys : List ℕ) → begun b (xs ++ ys) ≡ begun (begun b xs) ys
begun_append b [] ys = refl
begun_append b (x ∷ xs) ys = begun_append (not b && eqb x 92) xs ys

-- behind an even number of backslashes
even_not_begun : (bytes : List ℕ) → EndsEven bytes → begun false bytes ≡ false
even_not_begun bytes (empty xs e) = ap (begun false) e
even_not_begun bytes (other xs front c e f) = ap (begun false) e ∙ begun_append false front (c ∷ []) ∙ last (begun false front) where
  last : (b : Bool) → (not b && eqb c 92) ≡ false
  last true = refl
  last false = f
even_not_begun bytes (two_more xs front e h) =
    ap (begun false) e ∙ begun_append false front (92 ∷ 92 ∷ []) ∙ ap (λ (b : Bool). begun b (92 ∷ 92 ∷ [])) (even_not_begun front h)

-- the number of backslashes at the end is even, or one more
abbrev Ends : Bool → List ℕ → Type 0
Ends false bytes = EndsEven bytes
Ends true bytes = (front : List ℕ) × (bytes ≡ front ++ 92 ∷ []) × EndsEven front

one_more : (b : Bool) (xs : List ℕ) (c : ℕ) (is : Bool) → eqb c 92 ≡ is → Ends b xs → Ends (not b && is) (xs ++ c ∷ [])
one_more false xs c false e h = other (xs ++ c ∷ []) xs c refl e
one_more true xs c false e h = other (xs ++ c ∷ []) xs c refl e
one_more false xs c true e h = (xs, ap (λ (z : ℕ). xs ++ z ∷ []) (eqb-true c 92 e), h)
one_more true xs c true e (front, parts, even) =
    two_more (xs ++ c ∷ []) front (ap (λ (z : ℕ). xs ++ z ∷ []) (eqb-true c 92 e) ∙ ap (λ (z : List ℕ). z ++ 92 ∷ []) parts ∙
    append_assoc front (92 ∷ []) (92 ∷ [])) even

all_more : (b : Bool) (xs ys : List ℕ) → Ends b xs → Ends (begun b ys) (xs ++ ys)
all_more b xs [] h = subst (Ends b) (sym (append-nil xs)) h
all_more b xs (y ∷ ys) h =
    subst (Ends (begun b (y ∷ ys))) (append_assoc xs (y ∷ []) ys)
    (all_more (not b && eqb y 92) (xs ++ y ∷ []) ys (one_more b xs y (eqb y 92) refl h))

not_begun_even : (bytes : List ℕ) → begun false bytes ≡ false → EndsEven bytes
not_begun_even bytes e = subst (λ (b : Bool). Ends b bytes) e (all_more false [] bytes (empty [] refl))

-- ---- the first escape

-- where none is found in front, one is looked for behind
none_before : (b : Bool) (xs ys : List ℕ) → unicode_at b xs ≡ None
    → unicode_at b (xs ++ ys) ≡ option_map (λ n. n + length xs) (unicode_at (begun b xs) ys)
none_before b [] ys e = same (unicode_at b ys) where
  same : (o : Option ℕ) → o ≡ option_map (λ n. n + 0) o
  same None = refl
  same (Some n) = let e : n ≡ n + 0 = omega arith in ap (λ (z : ℕ). Some z) e
none_before b (x ∷ xs) ys e = elim (chosen (b && eqb x 117) (Some 0) (option_map (λ n. n + 1) (unicode_at (not b && eqb x 92) xs)) None e) [
  | inl t ↦ absurd (none_is_not 0 (sym t.1))
  | inr f ↦
      let test : (b && eqb x 117) ≡ false = f.0 in
      let more = none_before (not b && eqb x 92) xs ys (unmapped (unicode_at (not b && eqb x 92) xs) f.1) in
      rw (test, more) (twice (unicode_at (begun (not b && eqb x 92) xs) ys))
] where
  unmapped : (o : Option ℕ) → option_map (λ n. n + 1) o ≡ None → o ≡ None
  unmapped None e = refl
  unmapped (Some n) e = absurd (none_is_not (n + 1) (sym e))

  twice : (o : Option ℕ) → option_map (λ n. n + 1) (option_map (λ n. n + length xs) o) ≡ option_map (λ n. n + suc (length xs)) o
  twice None = refl
  twice (Some n) = let e : (n + length xs) + 1 ≡ n + suc (length xs) = omega arith in ap (λ (z : ℕ). Some z) e

-- what is found in front is found in the whole
found_before : (b : Bool) (xs ys : List ℕ) (n : ℕ) → unicode_at b xs ≡ Some n → unicode_at b (xs ++ ys) ≡ Some n
found_before b [] ys n e = absurd (none_is_not n e)
found_before b (x ∷ xs) ys n e =
    elim (chosen (b && eqb x 117) (Some 0) (option_map (λ k. k + 1) (unicode_at (not b && eqb x 92) xs)) (Some n) e) [
      | inl t ↦ let test : (b && eqb x 117) ≡ true = t.0 in rw test t.1
      | inr f ↦
          let test : (b && eqb x 117) ≡ false = f.0 in
          let m = map_some (unicode_at (not b && eqb x 92) xs) (λ k. k + 1) n f.1 in
          let more = found_before (not b && eqb x 92) xs ys m.0 m.1 in
          rw (test, more) (ap (λ (z : ℕ). Some z) m.2)
    ]

-- an escape behind bytes in which none is found
unicode_behind : (before after : List ℕ) → unicode_at false before ≡ None → EndsEven before → unicode_at false (before ++ 92 ∷ 117 ∷ after) ≡
    Some (suc (length before))
unicode_behind before after none even =
    none_before false before (92 ∷ 117 ∷ after) none
    ∙ ap (λ (b : Bool). option_map (λ n. n + length before) (unicode_at b (92 ∷ 117 ∷ after))) (even_not_begun before even)
    ∙ ap (λ (n : ℕ). Some n) one where
      one : 1 + length before ≡ suc (length before)
      one = omega arith

-- where an escape begins, one is found
unicode_there : (before after : List ℕ) → EndsEven before → unicode_at false (before ++ 92 ∷ 117 ∷ after) ≡ None → ⊥
unicode_there before after even e = go (unicode_at false before) refl where
  go : (o : Option ℕ) → unicode_at false before ≡ o → ⊥
  go None none = none_is_not (suc (length before)) (sym e ∙ unicode_behind before after none even)
  go (Some n) found = none_is_not n (sym e ∙ found_before false before (92 ∷ 117 ∷ after) n found)

-- where none is found, none begins
pub none_found : (body : List ℕ) → unicode_at false body ≡ None → HasNoUnicode body
none_found body e before after parts even = unicode_there before after even (sym (ap (unicode_at false) parts) ∙ e)

-- what is found, where the test says whether a backslash stands before the bytes
record Found (b : Bool) (bytes : List ℕ) (n : ℕ) : Type 0 where
  before : List ℕ
  after : List ℕ
  parts : bytes ≡ before ++ 92 ∷ 117 ∷ after
  even : begun b before ≡ false
  none : unicode_at b before ≡ None
  long : n ≡ suc (length before)

-- the backslash stands before the bytes
record Here (b : Bool) (bytes : List ℕ) (n : ℕ) : Type 0 where
  after : List ℕ
  behind : b ≡ true
  parts : bytes ≡ 117 ∷ after
  front : n ≡ 0

both_are : (a b : Bool) → (a && b) ≡ true → (a ≡ true) × (b ≡ true)
both_are true b h = (refl, h)
both_are false b h = absurd cc

not_true : (b : Bool) → not b ≡ true → b ≡ false
not_true false h = refl
not_true true h = absurd cc

found_is : (b : Bool) (bytes : List ℕ) (n : ℕ) → unicode_at b bytes ≡ Some n → Found b bytes n ⊎ Here b bytes n
found_is b [] n e = absurd (none_is_not n e)
found_is b (c ∷ cs) n e =
    elim (chosen (b && eqb c 117) (Some 0) (option_map (λ k. k + 1) (unicode_at (not b && eqb c 92) cs)) (Some n) e) [
      | inl t ↦
          let both = both_are b (eqb c 117) t.0 in
          inr (record { after = cs; behind = both.0; parts = ap (λ (z : ℕ). z ∷ cs) (eqb-true c 117 both.1); front = sym (some_is 0 n t.1) })
      | inr f ↦
          let m = map_some (unicode_at (not b && eqb c 92) cs) (λ k. k + 1) n f.1 in
          further m.0 m.2 f.0 (found_is (not b && eqb c 92) cs m.0 m.1)
    ] where
      further : (m : ℕ) → m + 1 ≡ n → (b && eqb c 117) ≡ false
          → Found (not b && eqb c 92) cs m ⊎ Here (not b && eqb c 92) cs m → Found b (c ∷ cs) n ⊎ Here b (c ∷ cs) n
      further m one test (inl g) = inl (record {
        before = c ∷ g.before;
        after = g.after;
        parts = ap (λ (z : List ℕ). c ∷ z) g.parts;
        even = g.even;
        none = let none = g.none in rw (test, none) refl;
        long = omega (arith, one, g.long);
      })
      further m one test (inr h) =
          let both = both_are (not b) (eqb c 92) h.behind in
          inl (record {
            before = [];
            after = h.after;
            parts = ap (λ (z : ℕ). z ∷ cs) (eqb-true c 92 both.1) ∙ ap (λ (z : List ℕ). 92 ∷ z) h.parts;
            even = not_true b both.0;
            none = refl;
            long = omega (arith, one, h.front);
          })

-- what is found is the first
pub record FoundFirst (body : List ℕ) (n : ℕ) : Type 0 where
  pub behind : ℕ
  pub first : FirstUnicode body behind
  pub at : n ≡ suc behind

pub first_found : (body : List ℕ) (n : ℕ) → unicode_at false body ≡ Some n → FoundFirst body n
first_found body n e = go (found_is false body n e) where
  go : Found false body n ⊎ Here false body n → FoundFirst body n
  go (inl f) = record {
    behind = length f.before;
    first = record {
      before = f.before;
      after = f.after;
      parts = f.parts;
      even = not_begun_even f.before f.even;
      first = none_found f.before f.none;
      long = refl;
    };
    at = f.long;
  }
  go (inr h) = let no = h.behind in absurd cc

-- where none begins, none is found
pub none_again : (body : List ℕ) → HasNoUnicode body → unicode_at false body ≡ None
none_again body none = go (unicode_at false body) refl where
  go : (o : Option ℕ) → unicode_at false body ≡ o → unicode_at false body ≡ None
  go None e = e
  go (Some n) e =
      let f = (first_found body n e).first in
      absurd (none f.before f.after f.parts f.even)

-- and the first is found
pub first_again : (body : List ℕ) (n : ℕ) → FirstUnicode body n → unicode_at false body ≡ Some (suc n)
first_again body n f =
    ap (unicode_at false) f.parts ∙ unicode_behind f.before f.after (none_again f.before f.first) f.even
    ∙ ap (λ (z : ℕ). Some (suc z)) (sym f.long)
