-- Sets as words: what bits say of the truth values.
use Rattle.std.proofs.Common.{◌≡◌, ◌≢◌, ℕ, zero, suc, ◌+◌, ◌*◌, ◌<◌, ◌≤◌, Bool, true, false, ◌⊎◌, List, [], ◌∷◌, length}
use Rattle.std.proofs.Common.{replicate, refl, sym, ap, ◌∙◌, subst, arith, inl, inr, ⊎_elim, length-set, max}
use Rattle.std.specs.Prelude.{◌||◌, ◌/◌, ◌%◌, ◌^◌, nat_eq, bit_or, slice_set, IsTrue, ◌↔◌}
use Rattle.std.specs.Int.{bit_at, w64}
use Rattle.std.specs.Int.Bits.{or_zero_r}
use Rattle.std.proofs.lemmas.Bool.{false≢true, cases_eq, cases_lt, eqb-true}
use Rattle.std.proofs.lemmas.Bool.Decides.{nat_tests}
use Rattle.std.proofs.lemmas.List.{get_or-set_same, get_or-set_other, get_or_past}
use Rattle.std.proofs.lemmas.Nat.Bits.{bit_at-zero, bit_at-lt, bit_at_or, bit_at_set_same, bit_at_set_other, same_from_bits}
use Rattle.mg_sets.specs.Sets.{has, join, IsSubset, Grows}
use Rattle.mg_sets.specs.Words.{word, bit, values_from, values, AreWords, Ored, IsWithin, IsOutside}
use Rattle.mg_sets.proofs.Bits.{or_bit, bit_cases}

pub values_length : (ws : List ℕ) (k n : ℕ) → length (values_from ws k n) ≡ n
values_length ws k zero = refl
values_length ws k (suc n) = ap suc (values_length ws (suc k) n)

pub ruleset sets = (values_length)

from_has : (ws : List ℕ) (k n i : ℕ) → i < n → has (values_from ws k n) i ≡ bit ws (k + i)
from_has ws k zero i lt = absurd (omega (arith, lt))
from_has ws k (suc n) zero lt = ap (bit ws) (omega arith)
from_has ws k (suc n) (suc i) lt = from_has ws (suc k) n i (omega (arith, lt)) ∙ ap (bit ws) (omega arith)

same_lists : (a b : List Bool) → length a ≡ length b → ((i : ℕ) → i < length a → has a i ≡ has b i) → a ≡ b
same_lists [] [] e h = refl
same_lists [] (y ∷ b) e h = absurd (omega (arith, e))
same_lists (x ∷ a) [] e h = absurd (omega (arith, e))
same_lists (x ∷ a) (y ∷ b) e h = ap (λ v. v ∷ a) (h 0 (omega arith)) ∙
    ap (λ r. y ∷ r) (same_lists a b (omega (arith, e)) (λ i lt. h (suc i) (omega (arith, lt))))

place_of : (i : ℕ) → (i / 64) * 64 + i % 64 ≡ i
place_of i = omega arith

below_word : (i : ℕ) → i % 64 < 64
below_word i = omega arith

within_words : (w i : ℕ) (ws : List ℕ) → AreWords w ws → i < w → i / 64 < length ws
within_words w i ws a lt = let c : length ws ≡ w / 64 + 1 = a.count in omega (arith, c, lt)

-- what is past the width has no bit
bit_past : (w : ℕ) (ws : List ℕ) (i : ℕ) → AreWords w ws → w ≤ i → bit ws i ≡ false
bit_past w ws i a past = go (bit ws i) refl
  where
    go : (b : Bool) → bit ws i ≡ b → bit ws i ≡ false
    go false e = e
    go true e =
        let h = a.within (i / 64) (i % 64) (eqb-true (bit_at (word ws (i / 64)) (i % 64)) 1 e) in
        let lt : (i / 64) * 64 + i % 64 < w = h.1 in
        absurd (omega (arith, lt, past))

pub has_bit : (w : ℕ) (ws : List ℕ) (i : ℕ) → AreWords w ws → has (values w ws) i ≡ bit ws i
has_bit w ws i a = ⊎_elim
    (λ lt. from_has ws 0 w i lt ∙ ap (bit ws) (omega arith))
    (λ past. get_or_past (values w ws) i false (let e : length (values w ws) ≡ w = values_length ws 0 w in omega (arith, e, past)) ∙
    sym (bit_past w ws i a past))
    (cases_lt i w)

-- The set without members.

replicate_word : (n k : ℕ) → word (replicate n 0) k ≡ 0
replicate_word zero k = refl
replicate_word (suc n) zero = refl
replicate_word (suc n) (suc k) = replicate_word n k

replicate_length : {A : Type 0} (n : ℕ) (x : A) → length (replicate n x) ≡ n
replicate_length zero x = refl
replicate_length (suc n) x = ap suc (replicate_length n x)

zero_one : ◌≡◌ {A = ℕ} 0 1 → ⊥
zero_one e = omega (arith, e)

pub blank_words : (w : ℕ) → AreWords w (replicate (w / 64 + 1) 0)
blank_words w = record {
  count = replicate_length (w / 64 + 1) 0;
  within = λ k i h. absurd (zero_one (sym (ap (λ n. bit_at n i) (replicate_word (w / 64 + 1) k) ∙ bit_at-zero i) ∙ h));
}

replicate_has : (n i : ℕ) → has (replicate n false) i ≡ false
replicate_has zero i = refl
replicate_has (suc n) zero = refl
replicate_has (suc n) (suc i) = replicate_has n i

blank_bit : (w i : ℕ) → bit (replicate (w / 64 + 1) 0) i ≡ false
blank_bit w i = ap (λ n. nat_eq (bit_at n (i % 64)) 1) (replicate_word (w / 64 + 1) (i / 64)) ∙ ap (λ n. nat_eq n 1) (bit_at-zero (i % 64))

pub blank_values : (w : ℕ) → values w (replicate (w / 64 + 1) 0) ≡ replicate w false
blank_values w = same_lists _ _ (values_length _ 0 w ∙ sym (replicate_length w false))
    (λ i lt. has_bit w _ i (blank_words w) ∙ blank_bit w i ∙ sym (replicate_has w i))

-- One bit.

abbrev pub with_bit : List ℕ → ℕ → List ℕ
with_bit ws i = slice_set ws (i / 64) (bit_or (word ws (i / 64)) (1 * 2 ^ (i % 64) % 2 ^ 64))

new_bit : (ws : List ℕ) (i : ℕ) → i / 64 < length ws → bit_at (word (with_bit ws i) (i / 64)) (i % 64) ≡ 1
new_bit ws i lt = ap (λ n. bit_at n (i % 64)) (get_or-set_same ws (i / 64) _ 0 lt) ∙ bit_at_set_same w64 (word ws (i / 64)) (i % 64)
    (below_word i)

-- a bit of another place is as it was
old_bit : (ws : List ℕ) (i k j : ℕ) → i / 64 < length ws → ((k ≡ i / 64) → (j ≡ i % 64) → ⊥) → bit_at (word (with_bit ws i) k) j ≡ bit_at
    (word ws k) j
old_bit ws i k j lt ne = ⊎_elim same (λ n. ap (λ x. bit_at x j) (get_or-set_other ws (i / 64) k _ 0 n)) (cases_eq k (i / 64))
  where
    same : k ≡ i / 64 → bit_at (word (with_bit ws i) k) j ≡ bit_at (word ws k) j
    same e = ap (λ x. bit_at (word (with_bit ws i) x) j) e ∙ ap (λ n. bit_at n j) (get_or-set_same ws (i / 64) _ 0 lt)
        ∙ bit_at_set_other w64 (word ws (i / 64)) (i % 64) (below_word i) j (λ f. ne e f) ∙ ap (λ x. bit_at (word ws x) j) (sym e)

pub added_words : (w : ℕ) (ws : List ℕ) (i : ℕ) → AreWords w ws → i < w → AreWords w (with_bit ws i)
added_words w ws i a lt = record {
  count = length-set ws (i / 64) _ ∙ a.count;
  within = λ k j h. ⊎_elim (λ e. ⊎_elim (λ f. here k j e f) (λ nf. there k j (λ _ f. nf f) h) (cases_eq j (i % 64)))
      (λ ne. there k j (λ e _. ne e) h) (cases_eq k (i / 64));
}
  where
    here : (k j : ℕ) → k ≡ i / 64 → j ≡ i % 64 → (j < 64) × (k * 64 + j < w)
    here k j e f = (omega (arith, f), omega (arith, e, f, lt))

    there : (k j : ℕ) → ((k ≡ i / 64) → (j ≡ i % 64) → ⊥) → bit_at (word (with_bit ws i) k) j ≡ 1 → (j < 64) × (k * 64 + j < w)
    there k j ne h = a.within k j (sym (old_bit ws i k j (within_words w i ws a lt) ne) ∙ h)

pub added_values : (w : ℕ) (ws : List ℕ) (i : ℕ) → AreWords w ws → i < w → values w (with_bit ws i) ≡ slice_set (values w ws) i true
added_values w ws i a lt = same_lists _ _ (values_length _ 0 w ∙ sym (length-set (values w ws) i true ∙ values_length ws 0 w))
    (λ j _. has_bit w _ j (added_words w ws i a lt) ∙ ⊎_elim (λ e. here j e) (λ ne. there j ne) (cases_eq j i))
  where
    within : i < length (values w ws)
    within = let e : length (values w ws) ≡ w = values_length ws 0 w in omega (arith, e, lt)

    here : (j : ℕ) → j ≡ i → bit (with_bit ws i) j ≡ has (slice_set (values w ws) i true) j
    here j e = ap (bit (with_bit ws i)) e ∙ ap (λ n. nat_eq n 1) (new_bit ws i (within_words w i ws a lt)) ∙
        sym (ap (has (slice_set (values w ws) i true)) e ∙ get_or-set_same (values w ws) i true false within)

    there : (j : ℕ) → j ≢ i → bit (with_bit ws i) j ≡ has (slice_set (values w ws) i true) j
    there j ne =
        ap (λ n. nat_eq n 1) (old_bit ws i (j / 64) (j % 64) (within_words w i ws a lt) (λ e f. ne (omega (arith, e, f))))
        ∙ sym (get_or-set_other (values w ws) i j true false ne ∙ has_bit w ws j a)

-- All bits.

or_false : (a : Bool) → (a || false) ≡ a
or_false true = refl
or_false false = refl

has_joined : (s t : List Bool) (i : ℕ) → i < length s → has (join s t) i ≡ (has s i || has t i)
has_joined [] t i lt = absurd (omega (arith, lt))
has_joined (a ∷ s) [] i lt = sym (or_false (has (a ∷ s) i))
has_joined (a ∷ s) (b ∷ t) zero lt = refl
has_joined (a ∷ s) (b ∷ t) (suc i) lt = has_joined s t i (omega (arith, lt))

joined_width : (s t : List Bool) → length (join s t) ≡ length s
joined_width [] t = refl
joined_width (a ∷ s) [] = refl
joined_width (a ∷ s) (b ∷ t) = ap suc (joined_width s t)

-- each word has the bits of both
ored_word : (old others now : List ℕ) (grew : Bool) (k : ℕ) → Ored old others now (length others) grew →
    word now k ≡ bit_or (word old k) (word others k)
ored_word old others now grew k o = ⊎_elim
    (λ lt. o.passed k lt)
    (λ past. o.left k past ∙ sym (ap (bit_or (word old k)) (get_or_past others k 0 past) ∙ or_zero_r (word old k)))
    (cases_lt k (length others))

ored_bit : (old others now : List ℕ) (grew : Bool) (i : ℕ) → Ored old others now (length others) grew →
    bit now i ≡ (bit old i || bit others i)
ored_bit old others now grew i o = ap (λ n. nat_eq (bit_at n (i % 64)) 1) (ored_word old others now grew (i / 64) o) ∙
    or_bit (word old (i / 64)) (word others (i / 64)) (i % 64)

or_one : (a b i : ℕ) → bit_at (bit_or a b) i ≡ 1 → (bit_at a i ≡ 1) ⊎ (bit_at b i ≡ 1)
or_one a b i h = ⊎_elim
    (λ x. ⊎_elim
    (λ y. absurd (zero_one (sym (bit_at_or a b i ∙ ap (λ n. max n (bit_at b i)) x ∙ ap (max 0) y) ∙ h)))
    inr
    (bit_cases b i))
    inl
    (bit_cases a i)

pub joined_words : (w v : ℕ) (old others now : List ℕ) (grew : Bool) → AreWords w old → AreWords v others → v ≤ w →
    Ored old others now (length others) grew → AreWords w now
joined_words w v old others now grew a b le o = record {
  count = o.wide ∙ a.count;
  within = λ k i h. ⊎_elim
      (a.within k i)
      (λ y. let r = b.within k i y in let lt : k * 64 + i < v = r.1 in (r.0, omega (arith, lt, le)))
      (or_one (word old k) (word others k) i (sym (ap (λ n. bit_at n i) (ored_word old others now grew k o)) ∙ h));
}

pub joined_values : (w v : ℕ) (old others now : List ℕ) (grew : Bool) → AreWords w old → AreWords v others → v ≤ w →
    Ored old others now (length others) grew → values w now ≡ join (values w old) (values v others)
joined_values w v old others now grew a b le o =
    same_lists _ _ (values_length now 0 w ∙ sym (joined_width (values w old) (values v others) ∙ values_length old 0 w))
    (λ i lt.
    has_bit w now i (joined_words w v old others now grew a b le o)
    ∙ ored_bit old others now grew i o
    ∙ ap (λ x. x || bit others i) (sym (has_bit w old i a)) ∙ ap (λ y. has (values w old) i || y) (sym (has_bit v others i b))
    ∙ sym (has_joined (values w old) (values v others) i (let e : length (values w now) ≡ w = values_length now 0 w in
    let f : length (values w old) ≡ w = values_length old 0 w in omega (arith, e, f, lt))))

-- Where two words differ, they differ in a bit.

record Found (f : ℕ → Bool) (n : ℕ) : Type 0 where
  pub place : ℕ
  pub below : place < n
  pub no : f place ≡ false

all_or_some : (f : ℕ → Bool) (n : ℕ) → ((i : ℕ) → i < n → f i ≡ true) ⊎ Found f n
all_or_some f zero = inl (λ i h. absurd (omega (arith, h)))
all_or_some f (suc n) = ⊎_elim
    (λ all. at (f n) refl all)
    (λ x. inr (record { place = x.place; below = (let lt : x.place < n = x.below in omega (arith, lt)); no = x.no }))
    (all_or_some f n)
  where
    at : (b : Bool) → f n ≡ b → ((i : ℕ) → i < n → f i ≡ true) → ((i : ℕ) → i < suc n → f i ≡ true) ⊎ Found f (suc n)
    at false e all = inr (record { place = n; below = omega arith; no = e })
    at true e all = inl (λ i h. ⊎_elim (λ lt. all i lt) (λ past. let i' : i ≡ n = omega (arith, h, past) in ap f i' ∙ e) (cases_lt i n))

nat_self : (n : ℕ) → nat_eq n n ≡ true
nat_self n = grind (arith, nat_tests)

-- words below 2 ^ 64 that aren't one
some_bit : (a b : ℕ) → ((i : ℕ) → bit_at a i ≡ 1 → i < 64) → ((i : ℕ) → bit_at b i ≡ 1 → i < 64) → (a ≡ b → ⊥) →
    (i : ℕ) × (bit_at a i ≡ bit_at b i → ⊥)
some_bit a b x y ne = ⊎_elim
    (λ all. absurd (ne (same_from_bits a b (λ i. ⊎_elim (λ lt. eqb-true (bit_at a i) (bit_at b i) (all i lt))
    (λ past. none a x i past ∙ sym (none b y i past)) (cases_lt i 64)))))
    (λ f. (f.place, λ e. false≢true (sym f.no ∙ ap (λ n. nat_eq (bit_at a f.place) n) (sym e) ∙ nat_self (bit_at a f.place))))
    (all_or_some (λ i. nat_eq (bit_at a i) (bit_at b i)) 64)
  where
    none : (n : ℕ) → ((i : ℕ) → bit_at n i ≡ 1 → i < 64) → (i : ℕ) → 64 ≤ i → bit_at n i ≡ 0
    none n z i past = ⊎_elim (λ e. e) (λ e. let lt : i < 64 = z i e in absurd (omega (arith, lt, past))) (bit_cases n i)

-- the number that a bit stands for
stands : (w : ℕ) (ws : List ℕ) (k i : ℕ) → i < 64 → bit ws (k * 64 + i) ≡ nat_eq (bit_at (word ws k) i) 1
stands w ws k i lt =
    let e : (k * 64 + i) / 64 ≡ k = omega (arith, lt) in
    let f : (k * 64 + i) % 64 ≡ i = omega (arith, lt) in
    ap (λ n. nat_eq (bit_at (word ws n) ((k * 64 + i) % 64)) 1) e ∙ ap (λ n. nat_eq (bit_at (word ws k) n) 1) f

member_at : (w : ℕ) (ws : List ℕ) (k i : ℕ) → AreWords w ws → bit_at (word ws k) i ≡ 1 → has (values w ws) (k * 64 + i) ≡ true
member_at w ws k i a h = has_bit w ws (k * 64 + i) a ∙ stands w ws k i (a.within k i h).0 ∙ ap (λ n. nat_eq n 1) h

absent_at : (w : ℕ) (ws : List ℕ) (k i : ℕ) → AreWords w ws → i < 64 → bit_at (word ws k) i ≡ 0 → has (values w ws) (k * 64 + i) ≡ false
absent_at w ws k i a lt h = has_bit w ws (k * 64 + i) a ∙ stands w ws k i lt ∙ ap (λ n. nat_eq n 1) h

-- a word of two that has more than one of them has a bit that this one lacks
gained : (w v : ℕ) (ws others : List ℕ) (k : ℕ) → AreWords w ws → AreWords v others → (bit_or (word ws k) (word others k) ≡ word others k →
    ⊥) → Grows (values v others) (values w ws)
gained w v ws others k a b ne = go (bit_cases (word ws k) i) (bit_cases (word others k) i)
  where
    d : (i : ℕ) × (bit_at (bit_or (word ws k) (word others k)) i ≡ bit_at (word others k) i → ⊥)
    d = some_bit (bit_or (word ws k) (word others k)) (word others k)
        (λ i h. ⊎_elim (λ x. (a.within k i x).0) (λ y. (b.within k i y).0) (or_one (word ws k) (word others k) i h))
        (λ i h. (b.within k i h).0) ne

    i : ℕ
    i = d.0

    or_is : bit_at (bit_or (word ws k) (word others k)) i ≡ max (bit_at (word ws k) i) (bit_at (word others k) i)
    or_is = bit_at_or (word ws k) (word others k) i

    go : (bit_at (word ws k) i ≡ 0) ⊎ (bit_at (word ws k) i ≡ 1) → (bit_at (word others k) i ≡ 0) ⊎ (bit_at (word others k) i ≡ 1) →
        Grows (values v others) (values w ws)
    go (inr x) (inl y) = record {
      member = k * 64 + i;
      new = member_at w ws k i a x;
      absent = absent_at v others k i b (a.within k i x).0
          y;
    }
    go (inl x) (inl y) = absurd (d.1 (or_is ∙ ap (λ n. max n (bit_at (word others k) i)) x ∙ ap (max 0) y ∙ sym y))
    go (inl x) (inr y) = absurd (d.1 (or_is ∙ ap (λ n. max n (bit_at (word others k) i)) x ∙ ap (max 0) y ∙ sym y))
    go (inr x) (inr y) = absurd (d.1 (or_is ∙ ap (λ n. max n (bit_at (word others k) i)) x ∙ ap (max 1) y ∙ sym y))

pub joined_grows : (w v : ℕ) (old others now : List ℕ) (grew : Bool) → AreWords w old → AreWords v others → v ≤ w →
    Ored old others now (length others) grew → grew ≡ true → Grows (values w old) (values w now)
joined_grows w v old others now grew a b le o h =
    let d = o.grown h in
    let n = joined_words w v old others now grew a b le o in
    gained w w now old d.place n a
    (λ e. d.differ (absorbed (word old d.place) (word others d.place) (word now d.place) (ored_word old others now grew d.place o) e))
  where
    -- now is old or others, so what now and old have together is now
    absorbed : (x y z : ℕ) → z ≡ bit_or x y → bit_or z x ≡ x → z ≡ x
    absorbed x y z e f = same_from_bits z x (λ i. bits i (bit_cases x i) (bit_cases z i))
      where
        bits : (i : ℕ) → (bit_at x i ≡ 0) ⊎ (bit_at x i ≡ 1) → (bit_at z i ≡ 0) ⊎ (bit_at z i ≡ 1) → bit_at z i ≡ bit_at x i
        bits i (inl p) (inl q) = q ∙ sym p
        bits i (inr p) (inr q) = q ∙ sym p
        bits i (inl p) (inr q) = absurd (zero_one (sym p ∙ sym (ap (λ n. bit_at n i) f) ∙ bit_at_or z x i ∙ ap (λ n. max n (bit_at x i)) q ∙
            ap (max 1) p))
        bits i (inr p) (inl q) = absurd (zero_one (sym q ∙ ap (λ n. bit_at n i) e ∙ bit_at_or x y i ∙ ap (λ n. max n (bit_at y i)) p ∙
            most (bit_at y i) (bit_at-lt y i)))
          where
            most : (n : ℕ) → n < 2 → max 1 n ≡ 1
            most zero lt = refl
            most (suc zero) lt = refl
            most (suc (suc n)) lt = absurd (omega (arith, lt))

-- Subsets.

pub outside_grows : (w : ℕ) (ws others : List ℕ) → AreWords w ws → AreWords w others → IsOutside ws others →
    Grows (values w others) (values w ws)
outside_grows w ws others a b o = gained w w ws others o.place a b o.out

pub within_subset : (w : ℕ) (ws others : List ℕ) → AreWords w ws → AreWords w others → IsWithin ws others →
    IsSubset (values w ws) (values w others)
within_subset w ws others a b h = record { within = λ i x. has_bit w others i b ∙ go i (sym (has_bit w ws i a) ∙ x) }
  where
    all : (k : ℕ) → bit_or (word ws k) (word others k) ≡ word others k
    all k = ⊎_elim (λ lt. h.each k lt)
        (λ past. let e : length ws ≡ w / 64 + 1 = a.count in let f : length others ≡ w / 64 + 1 = b.count in
        ap (λ n. bit_or n (word others k)) (get_or_past ws k 0 (omega (arith, e, f, past))))
        (cases_lt k (length others))

    go : (i : ℕ) → bit ws i ≡ true → bit others i ≡ true
    go i x = sym (ap (λ n. nat_eq (bit_at n (i % 64)) 1) (all (i / 64))) ∙ or_bit (word ws (i / 64)) (word others (i / 64)) (i % 64) ∙
        ap (λ y. y || bit others i) x

pub no_subset : (s t : List Bool) → Grows t s → IsSubset s t → ⊥
no_subset s t g h = false≢true (sym g.absent ∙ h.within g.member g.new)

pub same_width : (ws others : List ℕ) (w v : ℕ) → length (values w ws) ≡ length (values v others) → w ≡ v
same_width ws others w v e = sym (values_length ws 0 w) ∙ e ∙ values_length others 0 v

pub no_wider : (ws others : List ℕ) (w v : ℕ) → length (values w ws) ≤ length (values v others) → w ≤ v
no_wider ws others w v h = let a : length (values w ws) ≡ w = values_length ws 0 w in
    let b : length (values v others) ≡ v = values_length others 0 v in omega (arith, a, b, h)

-- The same of what contracts see.

pub has_now : (w : ℕ) (ws : List ℕ) (s : List Bool) (i : ℕ) → AreWords w ws → values w ws ≡ s → has s i ≡ bit ws i
has_now w ws s i a v = ap (λ x. has x i) (sym v) ∙ has_bit w ws i a

pub below_width : (w : ℕ) (ws : List ℕ) (s : List Bool) (i : ℕ) → values w ws ≡ s → i < length s → i < w
below_width w ws s i v lt = let a : length (values w ws) ≡ w = values_length ws 0 w in let b : length (values w ws) ≡ length s = ap length v
    in omega (arith, a, b, lt)

pub below_now : (w : ℕ) (ws : List ℕ) (s : List Bool) (i : ℕ) → AreWords w ws → values w ws ≡ s → i < length s → i / 64 < length ws
below_now w ws s i a v lt = within_words w i ws a (below_width w ws s i v lt)

pub blank_values_of : (w : ℕ) (ws : List ℕ) → ws ≡ replicate (w / 64 + 1) 0 → values w ws ≡ replicate w false
blank_values_of w ws e = ap (values w) e ∙ blank_values w

pub added_words_of : (w : ℕ) (ws next : List ℕ) (s : List Bool) (i : ℕ) → AreWords w ws → values w ws ≡ s → i < length s →
    next ≡ with_bit ws i → AreWords w next
added_words_of w ws next s i a v lt e = subst (AreWords w) (sym e) (added_words w ws i a (below_width w ws s i v lt))

pub added_values_of : (w : ℕ) (ws next : List ℕ) (s : List Bool) (i : ℕ) → AreWords w ws → values w ws ≡ s → i < length s →
    next ≡ with_bit ws i → values w next ≡ slice_set s i true
added_values_of w ws next s i a v lt e = ap (values w) e ∙ added_values w ws i a (below_width w ws s i v lt) ∙ ap (λ x. slice_set x i true)
    v

-- Two sets, the other no wider, whose words are borrowed.
module _ (w v : ℕ) (ws vs others : List ℕ) (s t : List Bool) (a : AreWords w ws) (b : AreWords v vs) (is : values w ws ≡ s)
    (it : values v vs ≡ t) (same : others ≡ vs) where
  narrow : length t ≤ length s → v ≤ w
  narrow h =
      let x : length (values w ws) ≡ w = values_length ws 0 w in let y : length (values v vs) ≡ v = values_length vs 0 v in
      let x' : length (values w ws) ≡ length s = ap length is in let y' : length (values v vs) ≡ length t = ap length it in omega
      (arith, x, y, x', y', h)

  pub no_longer : length t ≤ length s → length others ≤ length ws
  no_longer h =
      let n : v ≤ w = narrow h in let x : length ws ≡ w / 64 + 1 = a.count in let y : length vs ≡ v / 64 + 1 = b.count in
      let z : length others ≡ length vs = ap length same in
      omega (arith, n, x, y, z)

  ored : (now : List ℕ) (grew : Bool) → Ored ws others now (length others) grew → Ored ws vs now (length vs) grew
  ored now grew o = subst (λ x. Ored ws x now (length x) grew) same o

  pub join_words_of : (now : List ℕ) (grew : Bool) → length t ≤ length s → Ored ws others now (length others) grew → AreWords w now
  join_words_of now grew h o = joined_words w v ws vs now grew a b (narrow h) (ored now grew o)

  pub join_values_of : (now : List ℕ) (grew : Bool) → length t ≤ length s → Ored ws others now (length others) grew →
      values w now ≡ join s t
  join_values_of now grew h o = joined_values w v ws vs now grew a b (narrow h) (ored now grew o) ∙ ap (λ x. join x (values v vs)) is ∙
      ap (join s) it

  pub join_grows_of : (now : List ℕ) (grew : Bool) → length t ≤ length s → Ored ws others now (length others) grew → grew ≡ true →
      Grows s (values w now)
  join_grows_of now grew h o g = subst (λ x. Grows x (values w now)) is (joined_grows w v ws vs now grew a b (narrow h) (ored now grew o) g)

  pub join_same_of : (now : List ℕ) (grew : Bool) → Ored ws others now (length others) grew → grew ≡ false → values w now ≡ s
  join_same_of now grew o g = ap (values w) (o.same g) ∙ is

  one_width : length s ≡ length t → v ≡ w
  one_width h =
      let x : length (values w ws) ≡ w = values_length ws 0 w in let y : length (values v vs) ≡ v = values_length vs 0 v in
      let x' : length (values w ws) ≡ length s = ap length is in let y' : length (values v vs) ≡ length t = ap length it in omega
      (arith, x, y, x', y', h)

  pub one_length : length s ≡ length t → length ws ≡ length others
  one_length h =
      let n : v ≡ w = one_width h in let x : length ws ≡ w / 64 + 1 = a.count in let y : length vs ≡ v / 64 + 1 = b.count in
      let z : length others ≡ length vs = ap length same in
      omega (arith, n, x, y, z)

  pub subset_of : length s ≡ length t → IsWithin ws others → IsSubset s t
  subset_of h i =
      let b' : AreWords w vs = subst (λ n. AreWords n vs) (one_width h) b in
      let it' : values w vs ≡ t = subst (λ n. values n vs ≡ t) (one_width h) it in
      subst (λ x. IsSubset x t) is (subst (IsSubset (values w ws)) it' (within_subset w ws vs a b' (subst (IsWithin ws) same i)))

  pub outside_of : length s ≡ length t → IsOutside ws others → Grows t s
  outside_of h i =
      let b' : AreWords w vs = subst (λ n. AreWords n vs) (one_width h) b in
      let it' : values w vs ≡ t = subst (λ n. values n vs ≡ t) (one_width h) it in
      subst (λ x. Grows x s) it' (subst (Grows (values w vs)) is (outside_grows w ws vs a b' (subst (IsOutside ws) same i)))

pub decided : (b : Bool) (A : Type 0) → (b ≡ true → A) → (b ≡ false → A → ⊥) → IsTrue b ↔ A
decided true A f g = (λ h. f refl, λ x. refl)
decided false A f g = (λ h. absurd (false≢true h), λ x. absurd (g refl x))
