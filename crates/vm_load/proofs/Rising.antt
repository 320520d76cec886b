-- Instructions start at rising places, so that the number of one is found by halving.
use Rattle.std.proofs.Common.{◌≡◌, ℕ, zero, suc, ◌+◌, ◌<◌, ◌≤◌, ℤ, pos, Bool, true, false, ◌||◌, List, [], ◌∷◌, length, take, get_or}
use Rattle.std.proofs.Common.{Result, Ok, Err, MatchResult, nat_eq, refl, sym, ap, subst, ◌∙◌, arith}
use Rattle.std.specs.List.{list_any}
use Rattle.std.specs.List.Sorted.{IsBinarySearchResult}
use Rattle.std.specs.Ordering.{int_eq, nat_cmp}
use Rattle.std.proofs.lemmas.List.Sorted.{searched}
use Rattle.std.proofs.lemmas.Bool.Decides.{Decides-int_eq, nat_tests}
use Rattle.cls_tree.specs.Tree.{Instr}
use Rattle.cls_tree.specs.Layout.{instr_bytes}
use Rattle.cls_tree.specs.Jumps.{starts_from}
use Rattle.vm_model.specs.Links.{started}
use Rattle.vm_load.specs.Places.{AreRising}
use Rattle.vm_load.proofs.Widths.{is_width}
use Rattle.vm_load.proofs.Found.{first_index, no_index}

some_width : (place : ℕ) (i : Instr) → 0 < length (instr_bytes place i)
some_width place i = let e = is_width place i in omega (arith, e)

-- nothing starts before the first
not_before : (place : ℕ) (is : List Instr) (j : ℕ) → j < length (starts_from place is) → place ≤ get_or (starts_from place is) j 0
unfolding starts_from
not_before place [] j h = absurd (omega arith)
not_before place (i ∷ is) zero h = omega arith
not_before place (i ∷ is) (suc j) h =
    let rest = not_before (place + length (instr_bytes place i)) is j (omega arith) in
    omega (arith, rest)

rising : (place : ℕ) (is : List Instr) (i j : ℕ) → i < j → j < length (starts_from place is) → get_or (starts_from place is) i 0 < get_or
    (starts_from place is) j 0
unfolding starts_from
rising place [] i j lt h = absurd (omega arith)
rising place (x ∷ is) i zero lt h = absurd (omega arith)
rising place (x ∷ is) zero (suc j) lt h =
    let rest = not_before (place + length (instr_bytes place x)) is j (omega arith) in
    let wide = some_width place x in
    omega (arith, rest, wide)
rising place (x ∷ is) (suc i) (suc j) lt h = rising (place + length (instr_bytes place x)) is i j (omega arith) (omega arith)

pub starts_rise : (is : List Instr) (starts : List ℕ) → starts ≡ starts_from 0 is → AreRising starts
starts_rise is starts e = subst AreRising (sym e) (record { each = rising 0 is })

none_before : (p : ℕ → Bool) (xs : List ℕ) (i : ℕ) → ((k : ℕ) → k < i → k < length xs → p (get_or xs k 0) ≡ false) →
    list_any p (take i xs) ≡ false
none_before p [] zero h = refl
none_before p [] (suc i) h = refl
none_before p (x ∷ xs) zero h = refl
none_before p (x ∷ xs) (suc i) h =
    both_false (p x) (list_any p (take i xs)) (h 0 (omega arith) (omega arith))
    (none_before p xs i (λ k lt within. h (suc k) (omega arith) (omega arith)))
  where
    both_false : (a b : Bool) → a ≡ false → b ≡ false → (a || b) ≡ false
    both_false a b e f = rw e f

same_place : (s p : ℕ) → s ≡ p → int_eq (pos s) (pos p) ≡ true
same_place s p e = (Decides-int_eq (pos s) (pos p)).1 (ap pos e)

pub apart : (s : ℕ) (place : ℤ) → (pos s ≡ place → ⊥) → int_eq (pos s) place ≡ false
apart s place h = go (int_eq (pos s) place) refl
  where
    go : (b : Bool) → int_eq (pos s) place ≡ b → int_eq (pos s) place ≡ false
    go false e = e
    go true e = absurd (h ((Decides-int_eq (pos s) place).0 e))

-- no start is the same as the place
pub no_start_at : (starts : List ℕ) (place : ℤ) → ((k : ℕ) → k < length starts → int_eq (pos (get_or starts k 0)) place ≡ false) →
    started starts place ≡ length starts
no_start_at starts place h =
    no_index (λ s. int_eq (pos s) place) starts (length starts) (omega arith)
    (none_before (λ s. int_eq (pos s) place) starts (length starts) (λ k lt within. h k within))

module _ (starts : List ℕ) (rise : AreRising starts) (p : ℕ) where
  other_place : (s : ℕ) → (s ≡ p → ⊥) → int_eq (pos s) (pos p) ≡ false
  other_place s h = go (int_eq (pos s) (pos p)) refl
    where
      go : (b : Bool) → int_eq (pos s) (pos p) ≡ b → int_eq (pos s) (pos p) ≡ false
      go false e = e
      go true e =
          let same : pos s ≡ pos p = (Decides-int_eq (pos s) (pos p)).0 e in
          absurd (h cc)

  not_falling : (i j : ℕ) → i ≤ j → j < length starts → get_or starts i 0 ≤ get_or starts j 0
  not_falling i j le within = go (nat_eq i j) refl
    where
      go : (b : Bool) → nat_eq i j ≡ b → get_or starts i 0 ≤ get_or starts j 0
      go true e =
          let one : i ≡ j = grind (arith, nat_tests) in
          let same : get_or starts i 0 ≡ get_or starts j 0 = ap (λ n. get_or starts n 0) one in
          omega (arith, same)
      go false e =
          let apart : i < j = grind (arith, nat_tests) in
          let less = rise.each i j apart within in
          omega (arith, less)

  -- what halving finds is the number of the first that starts there
  pub found_number : (n : ℕ) → n < length starts → get_or starts n 0 ≡ p → started starts (pos p) ≡ n
  found_number n within at =
      first_index (λ s. int_eq (pos s) (pos p)) starts n 0 within
      (none_before (λ s. int_eq (pos s) (pos p)) starts n (λ k lt in_range.
      let below = rise.each k n lt within in
      other_place (get_or starts k 0) (λ e. omega (arith, below, at, e))))
      (same_place (get_or starts n 0) p at)

  pub halved : (r : Result ℕ ℕ) → IsBinarySearchResult (λ y. nat_cmp y p) starts r →
      MatchResult r (λ n. started starts (pos p) ≡ n) (λ _. started starts (pos p) ≡ length starts)
  halved r h = go r (searched starts p r h not_falling)
    where
      go : (r : Result ℕ ℕ) → MatchResult r (λ i. (i < length starts) × (get_or starts i 0 ≡ p))
          (λ i. (i ≤ length starts) × ((k : ℕ) → k < i → get_or starts k 0 < p) × ((k : ℕ) → i ≤ k → k < length starts →
          p < get_or starts k 0)) →
          MatchResult r (λ n. started starts (pos p) ≡ n) (λ _. started starts (pos p) ≡ length starts)
      go (Ok n) f = found_number n f.0 f.1
      go (Err i) f = no_start_at starts (pos p) (λ k within. other_place (get_or starts k 0) (apart i k within f.1 f.2))
        where
          apart : (i k : ℕ) → k < length starts → ((k : ℕ) → k < i → get_or starts k 0 < p) →
              ((k : ℕ) → i ≤ k → k < length starts → p < get_or starts k 0) → get_or starts k 0 ≡ p → ⊥
          apart i k within low high e = grind (arith, low k, high k, within, e)

-- the same of what a search answers
pub found_by_halving : (starts : List ℕ) (p n : ℕ) (r : Result ℕ ℕ) → AreRising starts → IsBinarySearchResult (λ y. nat_cmp y p) starts r →
    r ≡ Ok n → started starts (pos p) ≡ n
found_by_halving starts p n r rise h e = go r e (halved starts rise p r h)
  where
    go : (x : Result ℕ ℕ) → x ≡ Ok n → MatchResult x (λ m. started starts (pos p) ≡ m) (λ _. started starts (pos p) ≡ length starts) →
        started starts (pos p) ≡ n
    go (Ok m) is found =
        let same : m ≡ n = cc in
        found ∙ same
    go (Err m) is found = absurd cc

pub missed_by_halving : (starts : List ℕ) (p i : ℕ) (r : Result ℕ ℕ) → AreRising starts → IsBinarySearchResult (λ y. nat_cmp y p) starts r →
    r ≡ Err i → started starts (pos p) ≡ length starts
missed_by_halving starts p i r rise h e = go r e (halved starts rise p r h)
  where
    go : (x : Result ℕ ℕ) → x ≡ Err i → MatchResult x (λ m. started starts (pos p) ≡ m) (λ _. started starts (pos p) ≡ length starts) →
        started starts (pos p) ≡ length starts
    go (Ok m) is found = absurd cc
    go (Err m) is found = found
