-- Loops over the bytes of the pool and of a code: what was read, with what is left to read, is the whole.
use Rattle.std.proofs.Common.{◌≡◌, ℕ, zero, suc, ◌+◌, ◌-◌, ◌<◌, ◌≤◌, List, [], ◌∷◌, ◌++◌, length, get_or, drop, take, refl}
use Rattle.std.proofs.Common.{sym, ap, ◌∙◌, append_assoc, append-nil, arith, Bool, true, false, Option, Some, None}
use Rattle.std.specs.Prelude.{Ok, Err}
use Rattle.jcf_read.specs.declared.fault.Fault.{Fault}
use Rattle.jcf_read.specs.Pool.{Pool, is_tag, is_wide, holds, tags_from}
use Rattle.jcf_code.specs.Bytes.{number}
use Rattle.jcf_read.specs.Jumps.{strays, are_straying, judged, first_fault}

-- ---- turns
one_less : (n i : ℕ) → i < n → n - i ≡ suc (n - (i + 1))
one_less n i lt = omega arith

none_left : (n i : ℕ) → n ≤ i → n - i ≡ 0
none_left n i le = omega arith

-- ---- tags
pub tags_second : (front : List ℕ) (n i : ℕ) (bytes total : List ℕ) → i < n → front ++ tags_from (n - i) true bytes ≡ total →
    (front ++ 0 ∷ []) ++ tags_from (n - (i + 1)) false bytes ≡ total
unfolding tags_from
tags_second front n i bytes total lt so_far =
    let one : front ++ tags_from (n - i) true bytes ≡ (front ++ 0 ∷ []) ++ tags_from (n - (i + 1)) false bytes =
    rw (one_less n i lt) (sym (append_assoc front (0 ∷ []) (tags_from (n - (i + 1)) false bytes))) in
    sym one ∙ so_far

pub tags_over : (front : List ℕ) (n i : ℕ) (total : List ℕ) → i < n → front ++ tags_from (n - i) false [] ≡ total → front ≡ total
unfolding tags_from
tags_over front n i total lt so_far =
    let one : front ++ tags_from (n - i) false [] ≡ front = rw (one_less n i lt) (append-nil front) in
    sym one ∙ so_far

pub tags_none : (front : List ℕ) (n i tag : ℕ) (content total : List ℕ) → i < n → is_tag tag ≡ false →
    front ++ tags_from (n - i) false (tag ∷ content) ≡ total → front ≡ total
unfolding tags_from
tags_none front n i tag content total lt t so_far =
    let one : front ++ tags_from (n - i) false (tag ∷ content) ≡ front = rw (one_less n i lt, t) (append-nil front) in
    sym one ∙ so_far

pub tags_more : (front : List ℕ) (n i tag : ℕ) (content total : List ℕ) → i < n → is_tag tag ≡ true →
    front ++ tags_from (n - i) false (tag ∷ content) ≡ total
    → (front ++ tag ∷ []) ++ tags_from (n - (i + 1)) (is_wide tag) (drop (holds tag content) content) ≡ total
unfolding tags_from
tags_more front n i tag content total lt t so_far =
    let more = tags_from (n - (i + 1)) (is_wide tag) (drop (holds tag content) content) in
    let one : front ++ tags_from (n - i) false (tag ∷ content) ≡ (front ++ tag ∷ []) ++ more =
    rw (one_less n i lt, t) (sym (append_assoc front (tag ∷ []) more)) in
    sym one ∙ so_far

all_taken : (n : ℕ) (xs : List ℕ) → length xs ≤ n → take n xs ≡ xs
all_taken zero [] le = refl
all_taken (suc n) [] le = refl
all_taken zero (x ∷ xs) le = absurd (omega arith)
all_taken (suc n) (x ∷ xs) le = ap (λ ys. x ∷ ys) (all_taken n xs (omega arith))

pub content_is : (rest : List ℕ) → take (length rest - 1) (drop 1 rest) ≡ drop 1 rest
content_is [] = all_taken (0 - 1) [] (omega arith)
content_is (x ∷ xs) = all_taken (length (x ∷ xs) - 1) xs (omega arith)

-- the tag at the front of what is left, and what stands behind it
pub tags_next : (front : List ℕ) (n i : ℕ) (rest content total : List ℕ) → i < n → 0 < length rest → is_tag (get_or rest 0 0) ≡ true →
    content ≡ drop 1 rest → front ++ tags_from (n - i) false rest ≡ total
    → (front ++ get_or rest 0 0 ∷ [])
    ++ tags_from (n - (i + 1)) (is_wide (get_or rest 0 0)) (drop (holds (get_or rest 0 0) content) content) ≡ total
tags_next front n i [] content total lt some t e so_far = absurd (omega arith)
tags_next front n i (tag ∷ rest) content total lt some t e so_far = rw e (tags_more front n i tag rest total lt t so_far)

pub tags_done : (front : List ℕ) (n i : ℕ) (second : Bool) (bytes total : List ℕ) → n ≤ i → front ++ tags_from (n - i) second bytes ≡ total
    → front ≡ total
unfolding tags_from
tags_done front n i second bytes total le so_far =
    let one : front ++ tags_from (n - i) second bytes ≡ front = rw (none_left n i le) (append-nil front) in
    sym one ∙ so_far

-- ---- jumps of a switch
module _ (marks : List Bool) (len place step n i : ℕ) (bytes : List ℕ) (total : Bool) where
  pub stray_more : i < n → strays marks len place (number 4 bytes) 2147483648 ≡ false →
      are_straying marks len place step (n - i) bytes ≡ total → are_straying marks len place step (n - (i + 1)) (drop step bytes) ≡ total
  unfolding are_straying
  stray_more lt h so_far =
      let one : are_straying marks len place step (n - i) bytes ≡ are_straying marks len place step (n - (i + 1)) (drop step bytes) =
      rw (one_less n i lt, h) refl in
      sym one ∙ so_far

  pub stray_found : i < n → strays marks len place (number 4 bytes) 2147483648 ≡ true →
      are_straying marks len place step (n - i) bytes ≡ total → true ≡ total
  unfolding are_straying
  stray_found lt h so_far =
      let one : are_straying marks len place step (n - i) bytes ≡ true = rw (one_less n i lt, h) refl in
      sym one ∙ so_far

  pub stray_done : n ≤ i → are_straying marks len place step (n - i) bytes ≡ total → false ≡ total
  unfolding are_straying
  stray_done le so_far =
      let one : are_straying marks len place step (n - i) bytes ≡ false = rw (none_left n i le) refl in
      sym one ∙ so_far

-- ---- faults
module _ (pool : Pool) (marks : List Bool) (code : List ℕ) (end n i : ℕ) (total : Option Fault) where
  pub fault_later : (rest : List ℕ) (size : ℕ) → i < n → 0 < length rest → judged pool marks code end rest ≡ Ok size →
      first_fault pool marks code end (n - i) rest ≡ total → first_fault pool marks code end (n - (i + 1)) (drop size rest) ≡ total
  unfolding first_fault
  fault_later [] size lt some h so_far = absurd (omega arith)
  fault_later (op ∷ rest) size lt some h so_far =
      let one : first_fault pool marks code end (n - i) (op ∷ rest)
      ≡ first_fault pool marks code end (n - (i + 1)) (drop size (op ∷ rest)) =
      rw (one_less n i lt, h) refl in
      sym one ∙ so_far

  pub fault_here : (rest : List ℕ) (fault : Fault) → i < n → 0 < length rest → judged pool marks code end rest ≡ Err fault →
      first_fault pool marks code end (n - i) rest ≡ total → Some fault ≡ total
  unfolding first_fault
  fault_here [] fault lt some h so_far = absurd (omega arith)
  fault_here (op ∷ rest) fault lt some h so_far =
      let one : first_fault pool marks code end (n - i) (op ∷ rest) ≡ Some fault = rw (one_less n i lt, h) refl in
      sym one ∙ so_far

  pub fault_over : (rest : List ℕ) → i < n → length rest ≡ 0 → first_fault pool marks code end (n - i) rest ≡ total → None ≡ total
  unfolding first_fault
  fault_over [] lt none so_far =
      let one : first_fault pool marks code end (n - i) [] ≡ None = rw (one_less n i lt) refl in
      sym one ∙ so_far
  fault_over (op ∷ rest) lt none so_far = absurd (omega arith)

  pub fault_done : (rest : List ℕ) → n ≤ i → first_fault pool marks code end (n - i) rest ≡ total → None ≡ total
  unfolding first_fault
  fault_done rest le so_far =
      let one : first_fault pool marks code end (n - i) rest ≡ None = rw (none_left n i le) refl in
      sym one ∙ so_far
