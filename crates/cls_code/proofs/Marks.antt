-- The marks of starts, and the jumps that reach them.
use Rattle.std.proofs.Common.{◌≡◌, ℕ, zero, suc, ◌+◌, ◌<◌, ◌≤◌, List, [], ◌∷◌, length, get_or, drop, replicate, Bool, true, false}
use Rattle.std.proofs.Common.{cond, ◌||◌, not, Some, None, Option, pos, negsuc, ◌+ℤ◌, ℤ, refl, ap, sym, subst, ◌∙◌, arith, add-one}
use Rattle.std.specs.List.{list_any, All}
use Rattle.std.specs.Ordering.{int_eq}
use Rattle.std.specs.Prelude.{◌==◌}
use Rattle.std.proofs.lemmas.Int.{ints}
use Rattle.std.proofs.lemmas.List.{length-replicate, drop_more, drop_all}
use Rattle.std.proofs.lemmas.Bool.Decides.{same_from_decides, Decides-eqb, Decides-like, Decides-int_eq}
use lib.Signed.{◌<ℤ◌}
use Rattle.cls_tree.specs.Jumps.{is_start}
use Rattle.cls_code.specs.Inner.{IsMarked}

none_marked : (n i : ℕ) → get_or (replicate n false) i false ≡ false
none_marked zero i = refl
none_marked (suc n) zero = refl
none_marked (suc n) (suc i) = none_marked n i

-- The marks are those of the starts before this index.
pub record Marking (starts : List ℕ) (marks : List Bool) (len k : ℕ) : Type 0 where
  pub long : length marks ≡ len
  pub marked : (at : ℕ) → (get_or marks at false || list_any (λ s. s == at) (drop k starts)) ≡ list_any (λ s. s == at) starts

pub marking_first : (starts : List ℕ) (len : ℕ) → Marking starts (replicate len false) len 0
marking_first starts len =
    record { long = length-replicate len false; marked = λ at. ap (λ b. b || list_any (λ s. s == at) starts) (none_marked len at) }

pos_same : (s n : ℕ) → pos s ≡ pos n → s ≡ n
pos_same s n e = cc

same_test : (s n : ℕ) → (s == n) ≡ int_eq (pos s) (pos n)
same_test s n =
    same_from_decides (s == n) (int_eq (pos s) (pos n)) (Decides-eqb s n)
    (Decides-like (int_eq (pos s) (pos n)) (pos_same s n) (ap pos) (Decides-int_eq (pos s) (pos n)))

same_any : (starts : List ℕ) (n : ℕ) → list_any (λ s. s == n) starts ≡ is_start starts (pos n)
same_any [] n = refl
same_any (s ∷ starts) n = ap (λ b. b || list_any (λ t. t == n) starts) (same_test s n) ∙ ap (λ b. int_eq (pos s) (pos n) || b)
    (same_any starts n)

-- a jump to a place
pub reached_at : (starts : List ℕ) (marks : List Bool) (z : ℤ) (n : ℕ) → IsMarked starts marks → z ≡ pos n →
    get_or marks n false ≡ is_start starts z
reached_at starts marks z n m e = m.marked n ∙ same_any starts n ∙ ap (is_start starts) (sym e)

none_before : (starts : List ℕ) (n : ℕ) → is_start starts (negsuc n) ≡ false
none_before [] n = refl
none_before (s ∷ starts) n = none_before starts n

-- a jump to before the code
pub reached_before : (starts : List ℕ) (z : ℤ) → z <ℤ pos 0 → is_start starts z ≡ false
reached_before starts (pos n) lt = absurd (omega (arith, ints))
reached_before starts (negsuc n) lt = none_before starts n

-- no jump so far is outside
module _ (starts : List ℕ) (place : ℕ) where
  abbrev is_out : ℤ → Bool
  is_out d = not (is_start starts (pos place +ℤ d))

  pub none_more : (ds : List ℤ) (k : ℕ) (d : ℤ) → k < length ds → d ≡ get_or ds k (pos 0) → is_start starts (pos place +ℤ d) ≡ true
      → list_any is_out ds ≡ list_any is_out (drop k ds) → list_any is_out ds ≡ list_any is_out (drop (k + 1) ds)
  none_more ds k d below e here so_far =
      so_far ∙ ap (list_any is_out) (drop_more ds k (pos 0) below)
      ∙ ap (λ b. not b || list_any is_out (drop (k + 1) ds)) (ap (λ z. is_start starts (pos place +ℤ z)) (sym e) ∙ here)

  pub none_found : (ds : List ℤ) (k : ℕ) (d : ℤ) → k < length ds → d ≡ get_or ds k (pos 0) → is_start starts (pos place +ℤ d) ≡ false
      → list_any is_out ds ≡ list_any is_out (drop k ds) → list_any is_out ds ≡ true
  none_found ds k d below e here so_far =
      so_far ∙ ap (list_any is_out) (drop_more ds k (pos 0) below)
      ∙ ap (λ b. not b || list_any is_out (drop (k + 1) ds)) (ap (λ z. is_start starts (pos place +ℤ z)) (sym e) ∙ here)

  pub none_left : (ds : List ℤ) (k : ℕ) → length ds ≤ k → list_any is_out ds ≡ list_any is_out (drop k ds) → list_any is_out ds ≡ false
  none_left ds k le so_far = so_far ∙ ap (list_any is_out) (drop_all k ds le)
