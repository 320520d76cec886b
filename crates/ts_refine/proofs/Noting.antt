-- Bits of words tell which pairs are in a list.
use Rattle.std.proofs.Common.{◌≡◌, ◌≢◌, ℕ, zero, suc, ◌<◌, true, false, List, [], ◌∷◌, ◌++◌, length, replicate, Option, Some, None}
use Rattle.std.proofs.Common.{if◌then◌else◌, refl, sym, ap, subst, ◌∙◌, arith, ⊎_elim}
use Rattle.std.specs.Prelude.{◌/◌, ◌%◌, nat_eq, nat_lt}
use Rattle.std.specs.Int.{bit_at, w64}
use Rattle.std.proofs.lemmas.Bool.{cases_eq}
use Rattle.std.proofs.lemmas.Option.{option_and_then_some}
use Rattle.std.proofs.lemmas.List.{get_or-set_same, get_or-set_other}
use Rattle.std.proofs.lemmas.Nat.Bits.{bit_at-zero, bit_at_set_same, bit_at_set_other}
use Rattle.mg_sets.specs.Words.{word, bit}
use Rattle.mg_sets.proofs.WordLaws.{with_bit}
use Rattle.ts_refine.specs.declared.verdict.Pair.{Pair}
use Rattle.ts_refine.specs.inner.Marking.{number, bit_number, AreMarked}
use Rattle.ts_refine.proofs.Marking.{TellsApart, number_same, if_some, blank-marked, marked-more, marked-past}

-- ---- one bit
bit_now : (ws : List ℕ) (i : ℕ) → i / 64 < length ws → bit (with_bit ws i) i ≡ true
bit_now ws i lt = ap (λ n. nat_eq n 1) (ap (λ n. bit_at n (i % 64)) (get_or-set_same ws (i / 64) _ 0 lt) ∙ bit_at_set_same w64
    (word ws (i / 64)) (i % 64) (omega arith))

bit_kept : (ws : List ℕ) (i k : ℕ) → i / 64 < length ws → k ≢ i → bit (with_bit ws i) k ≡ bit ws k
bit_kept ws i k lt ne = ⊎_elim same (λ other. ap (λ x. nat_eq (bit_at x (k % 64)) 1) (get_or-set_other ws (i / 64) (k / 64) _ 0 other))
    (cases_eq (k / 64) (i / 64))
  where
    same : k / 64 ≡ i / 64 → bit (with_bit ws i) k ≡ bit ws k
    same e = ap (λ x. nat_eq x 1)
        (ap (λ x. bit_at (word (with_bit ws i) x) (k % 64)) e
        ∙ ap (λ n. bit_at n (k % 64)) (get_or-set_same ws (i / 64) _ 0 lt)
        ∙ bit_at_set_other w64 (word ws (i / 64)) (i % 64) (omega arith) (k % 64) (λ f. ne (omega (arith, e, f)))
        ∙ ap (λ x. bit_at (word ws x) (k % 64)) (sym e))

blank_word : (n k : ℕ) → word (replicate n 0) k ≡ 0
blank_word zero k = refl
blank_word (suc n) zero = refl
blank_word (suc n) (suc k) = blank_word n k

blank_bit : (n i : ℕ) → bit (replicate n 0) i ≡ false
blank_bit n i = ap (λ w. nat_eq (bit_at w (i % 64)) 1) (blank_word n (i / 64)) ∙ ap (λ w. nat_eq w 1) (bit_at-zero (i % 64))

-- ---- numbers that have a bit
numbered-too : (count a b : ℕ) (pair : Pair) (i : ℕ) → bit_number count a b pair ≡ Some i → number a b pair ≡ Some i
numbered-too count a b pair i e =
    option_and_then_some (λ n. if nat_lt (n / 64) count then Some n else None) (number a b pair) i e
    (λ n is within. is ∙ ap Some (if_some (nat_lt (n / 64) count) n i within).1)

bits-apart : (count a b : ℕ) → TellsApart (bit_number count a b)
bits-apart count a b x y i h k = number_same a b x y i (numbered-too count a b x i h) (numbered-too count a b y i k)

-- ---- pairs, one after another
pub noted-none : (slot : Pair → Option ℕ) (ws : List ℕ) (n : ℕ) → ws ≡ replicate n 0 → AreMarked slot (bit ws) []
noted-none slot ws n is = subst (λ (ws : List ℕ). AreMarked slot (bit ws) []) (sym is)
    (blank-marked slot (bit (replicate n 0)) (blank_bit n))

pub noted-more : (count a b : ℕ) (ws news : List ℕ) (pairs : List Pair) (x : Pair) (i : ℕ)
    → AreMarked (bit_number count a b) (bit ws) pairs → bit_number count a b x ≡ Some i → i / 64 < length ws → news ≡ with_bit ws i
    → AreMarked (bit_number count a b) (bit news) (pairs ++ x ∷ [])
noted-more count a b ws news pairs x i m at lt is = subst (λ (ws : List ℕ). AreMarked (bit_number count a b) (bit ws) (pairs ++ x ∷ []))
    (sym is)
    (marked-more (bit_number count a b) (bits-apart count a b) (bit ws) (bit (with_bit ws i)) pairs x i m at (bit_now ws i lt)
    (λ k ne. bit_kept ws i k lt ne))

pub noted-past : (count a b : ℕ) (ws : List ℕ) (pairs : List Pair) (x : Pair) → AreMarked (bit_number count a b) (bit ws) pairs
    → bit_number count a b x ≡ None → AreMarked (bit_number count a b) (bit ws) (pairs ++ x ∷ [])
noted-past count a b ws pairs x m none = marked-past (bit_number count a b) (bit ws) pairs x m none
