-- The first member from a number on: word by word, and as what is left of the members.
use Rattle.std.proofs.Common.{◌≡◌, ℕ, zero, suc, ◌+◌, ◌-◌, ◌*◌, ◌<◌, ◌≤◌, Bool, false, List, [], ◌∷◌, length, drop, Option, Some, None}
use Rattle.std.proofs.Common.{refl, sym, ap, ◌∙◌, subst, arith, ⊎_elim, add-one}
use Rattle.std.specs.Prelude.{◌/◌, ◌%◌, ◌^◌, nat_eq, MatchOption}
use Rattle.std.specs.Int.{bit_at, w64, trailing_zeros}
use Rattle.std.proofs.lemmas.Bool.{cases_lt}
use Rattle.std.proofs.lemmas.List.{at_drop_more, at_drop_all}
use Rattle.std.proofs.lemmas.Nat.{shr-shr}
use Rattle.std.proofs.Math.Nat.{div-le_self}
use Rattle.std.proofs.lemmas.Nat.Bits.{bit_at-zero, bit_at-trailing_zeros}
use Rattle.mg_sets.specs.Sets.{has, members_from}
use Rattle.mg_sets.specs.Words.{word, bit, values, AreWords, NoneFrom, IsNext, IsDone, IsFirst}
use Rattle.mg_sets.proofs.WordLaws.{has_bit, values_length}

shifted : (w s j : ℕ) → bit_at (w / 2 ^ s) j ≡ bit_at w (s + j)
shifted w s j = ap (λ n. n % 2) (shr-shr w s j)

-- from one number up to another no bit is set
pub record Passed (ws : List ℕ) (from to : ℕ) : Type 0 where
  pub each : (i : ℕ) → from ≤ i → i < to → bit ws i ≡ false

div-one : (n : ℕ) → n / 2 ^ 0 ≡ n
div-one n = omega arith

no_bit : (ws : List ℕ) (i n : ℕ) → bit_at (word ws (i / 64)) (i % 64) ≡ 0 → bit ws i ≡ false
no_bit ws i n e = ap (λ m. nat_eq m 1) e

module _ (ws : List ℕ) (width from : ℕ) (are : AreWords width ws) where
  -- the bits of a word, from a place on
  at_place : (k s j : ℕ) → s + j < 64 → bit ws (k * 64 + s + j) ≡ nat_eq (bit_at (word ws k / 2 ^ s) j) 1
  at_place k s j lt =
      let quotient : (k * 64 + s + j) / 64 ≡ k = omega (arith, lt) in
      let remainder : (k * 64 + s + j) % 64 ≡ s + j = omega (arith, lt) in
      ap (λ x. nat_eq (bit_at (word ws x) ((k * 64 + s + j) % 64)) 1) quotient
      ∙ ap (λ x. nat_eq (bit_at (word ws k) x) 1) remainder ∙ ap (λ x. nat_eq x 1) (sym (shifted (word ws k) s j))

  -- a word with a bit at a place or behind it
  pub word_some : (k s r : ℕ) → r ≡ word ws k / 2 ^ s → 0 < r → r < 2 ^ 64 → s < 64 → from ≤ k * 64 + s → Passed ws from (k * 64 + s) →
      IsNext ws width from (k * 64 + s + trailing_zeros w64 r)
  word_some k s r is some fits low le passed =
      let h = bit_at-trailing_zeros w64 r some fits in
      let one : bit_at (word ws k / 2 ^ s) (trailing_zeros w64 r) ≡ 1 = ap (λ x. bit_at x (trailing_zeros w64 r)) (sym is) ∙ h.1 in
      let inside = are.within k (s + trailing_zeros w64 r) (sym (shifted (word ws k) s (trailing_zeros w64 r)) ∙ one) in
      record {
        behind = omega (arith, le);
        within = (let lt : k * 64 + (s + trailing_zeros w64 r) < width = inside.1 in omega (arith, lt));
        set = at_place k s (trailing_zeros w64 r) inside.0 ∙ ap (λ x. nat_eq x 1) one;
        passed = λ i a b. ⊎_elim (λ lt. passed.each i a lt) (λ past. later i past b inside.0 h.2) (cases_lt i (k * 64 + s));
      }
    where
      later : (i : ℕ) → k * 64 + s ≤ i → i < k * 64 + s + trailing_zeros w64 r → s + trailing_zeros w64 r < 64 →
          ((j : ℕ) → j < trailing_zeros w64 r → bit_at r j ≡ 0) → bit ws i ≡ false
      later i past b short zeros =
          let j : ℕ = i - (k * 64 + s) in
          let back : k * 64 + s + (i - (k * 64 + s)) ≡ i = omega (arith, past) in
          ap (bit ws) (sym back) ∙ at_place k s (i - (k * 64 + s)) (omega (arith, past, b, short))
          ∙ ap (λ x. nat_eq x 1) (ap (λ x. bit_at x (i - (k * 64 + s))) (sym is) ∙ zeros (i - (k * 64 + s)) (omega (arith, past, b)))

  -- a word without one
  pub word_none : (k s r : ℕ) → r ≡ word ws k / 2 ^ s → r ≡ 0 → s < 64 → Passed ws from (k * 64 + s) → Passed ws from ((k + 1) * 64)
  word_none k s r is nothing low passed = record {
    each = λ i a b. ⊎_elim (λ lt. passed.each i a lt) (λ past. later i past b) (cases_lt i (k * 64 + s));
  }
    where
      later : (i : ℕ) → k * 64 + s ≤ i → i < (k + 1) * 64 → bit ws i ≡ false
      later i past b =
          let back : k * 64 + s + (i - (k * 64 + s)) ≡ i = omega (arith, past) in
          ap (bit ws) (sym back) ∙ at_place k s (i - (k * 64 + s)) (omega (arith, past, b))
          ∙ ap (λ x. nat_eq x 1) (ap (λ x. bit_at x (i - (k * 64 + s))) (sym is ∙ nothing) ∙ bit_at-zero (i - (k * 64 + s)))

  pub passed_none : (to : ℕ) → to ≤ from → Passed ws from to
  passed_none to le = record { each = λ i a b. absurd (omega (arith, le, a, b)) }

  -- the word of the number itself, from its bit on
  pub word_first : word ws (from / 64) < 2 ^ 64 → 0 < word ws (from / 64) / 2 ^ (from % 64) →
      IsNext ws width from (from + trailing_zeros w64 (word ws (from / 64) / 2 ^ (from % 64)))
  word_first fits some =
      let at : from / 64 * 64 + from % 64 ≡ from = omega arith in
      let le : word ws (from / 64) / 2 ^ (from % 64) ≤ word ws (from / 64) = div-le_self (word ws (from / 64)) (2 ^ (from % 64)) in
      subst (λ n. IsNext ws width from (n + trailing_zeros w64 (word ws (from / 64) / 2 ^ (from % 64)))) at
      (word_some (from / 64) (from % 64) (word ws (from / 64) / 2 ^ (from % 64)) refl some (omega (arith, le, fits)) (omega arith) (omega arith)
      (passed_none (from / 64 * 64 + from % 64) (omega arith)))

  pub word_rest : word ws (from / 64) / 2 ^ (from % 64) ≡ 0 → Passed ws from ((from / 64 + 1) * 64)
  word_rest nothing =
      word_none (from / 64) (from % 64) (word ws (from / 64) / 2 ^ (from % 64)) refl nothing (omega arith)
      (passed_none (from / 64 * 64 + from % 64) (omega arith))

  -- a word behind it
  pub word_whole : (k : ℕ) → word ws k < 2 ^ 64 → 0 < word ws k → from ≤ k * 64 → Passed ws from (k * 64) →
      IsNext ws width from (k * 64 + trailing_zeros w64 (word ws k))
  word_whole k fits some le passed =
      let at : k * 64 + 0 ≡ k * 64 = omega arith in
      subst (λ n. IsNext ws width from (n + trailing_zeros w64 (word ws k))) at
      (word_some k 0 (word ws k) (sym (div-one (word ws k))) some fits (omega arith) (omega (arith, le))
      (subst (Passed ws from) (sym at) passed))

-- The set behind the words.
module _ (ws : List ℕ) (width from : ℕ) (are : AreWords width ws) where
  pub done_by : NoneFrom ws from → IsDone (values width ws) from
  done_by h = record { none = λ i le. has_bit width ws i are ∙ h.none i le }

  pub first_by : (n : ℕ) → IsNext ws width from n → IsFirst (values width ws) from n
  first_by n h = record {
    behind = h.behind;
    within = (let e : length (values width ws) ≡ width = values_length ws 0 width in let lt : n < width = h.within in omega (arith, e, lt));
    member = has_bit width ws n are ∙ h.set;
    passed = λ i a b. has_bit width ws i are ∙ h.passed i a b;
  }

-- What is left of the members.
module _ (s : List Bool) where
  next_one : (k : ℕ) → k < length s → members_from k (drop k s) ≡ members_from k (has s k ∷ drop (k + 1) s)
  next_one k lt = at_drop_more (members_from k) s k false lt

  skip : (k : ℕ) → has s k ≡ false → k < length s → members_from k (drop k s) ≡ members_from (k + 1) (drop (k + 1) s)
  skip k no_member lt = next_one k lt ∙ ap (λ b. members_from k (b ∷ drop (k + 1) s)) no_member
      ∙ ap (λ n. members_from n (drop (k + 1) s)) (sym (add-one k))

  skip_all : (d k : ℕ) → k + d ≤ length s → ((i : ℕ) → k ≤ i → i < k + d → has s i ≡ false) →
      members_from k (drop k s) ≡ members_from (k + d) (drop (k + d) s)
  skip_all zero k le none = let e : k ≡ k + zero = omega arith in ap (λ n. members_from n (drop n s)) e
  skip_all (suc d) k le none =
      skip k (none k (omega arith) (omega arith)) (omega (arith, le))
      ∙ skip_all d (k + 1) (omega (arith, le)) (λ i a b. none i (omega (arith, a)) (omega (arith, b)))
      ∙ (let e : k + 1 + d ≡ k + suc d = omega arith in ap (λ n. members_from n (drop n s)) e)

  pub first_left : (from n : ℕ) → IsFirst s from n → members_from from (drop from s) ≡ n ∷ members_from (n + 1) (drop (n + 1) s)
  first_left from n h =
      let le : from ≤ n = h.behind in
      let lt : n < length s = h.within in
      let e : from + (n - from) ≡ n = omega (arith, le) in
      skip_all (n - from) from (omega (arith, le, lt)) (λ i a b. h.passed i a (omega (arith, b, le)))
      ∙ ap (λ m. members_from m (drop m s)) e
      ∙ next_one n lt ∙ ap (λ b. members_from n (b ∷ drop (n + 1) s)) h.member
      ∙ ap (λ m. n ∷ members_from m (drop (n + 1) s)) (sym (add-one n))

  pub none_left : (from : ℕ) → from ≤ length s → IsDone s from → members_from from (drop from s) ≡ []
  none_left from le h =
      let e : from + (length s - from) ≡ length s = omega (arith, le) in
      skip_all (length s - from) from (omega (arith, le)) (λ i a b. h.none i a)
      ∙ ap (λ m. members_from m (drop m s)) e
      ∙ at_drop_all (members_from (length s)) s (length s) (omega arith)

-- What is found among the words is what is found in the set.
pub found_in : (o : Option ℕ) (ws xs : List ℕ) (width from : ℕ) (s : List Bool) → xs ≡ ws → values width ws ≡ s → AreWords width ws →
    MatchOption o (NoneFrom xs from) (IsNext xs width from) → MatchOption o (IsDone s from) (IsFirst s from)
found_in None ws xs width from s same view are h =
    subst (λ s. IsDone s from) view (done_by ws width from are (subst (λ y. NoneFrom y from) same h))
found_in (Some n) ws xs width from s same view are h =
    subst (λ s. IsFirst s from n) view (first_by ws width from are n (subst (λ y. IsNext y width from n) same h))

pub below : (a b c : ℕ) → a < b → b < c → a < c
below a b c h k = omega (arith, h, k)

pub shorter : (all rest : List ℕ) (n : ℕ) → all ≡ n ∷ rest → length rest < length all
shorter all rest n e = let k : length all ≡ suc (length rest) = ap length e in omega (arith, k)
