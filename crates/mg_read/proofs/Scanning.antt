-- Judging the elements of a list in a loop, each with those before it.
use Rattle.std.proofs.Common.{◌≡◌, ℕ, ◌+◌, ◌<◌, ◌≤◌, List, [], ◌∷◌, ◌++◌, length, get_or, take, drop, Option, Some, None, sym, ap, subst}
use Rattle.std.proofs.Common.{◌∙◌}
use Rattle.std.proofs.lemmas.List.{take_more, at_drop_more, at_drop_all}
use Rattle.mg_read.specs.First.{Judged, clean, here, later, behind, with_earlier}

module _ {X C : Type 0} (At : List X × X → C → Type 0) where
  -- what the elements from an index on answer is the answer
  pub record Left (xs : List X) (i : ℕ) : Type 0 where
    pub left : (r : Option C) → Judged At (behind (take i xs) (drop i xs)) r → Judged At (with_earlier xs) r

  -- before the first element
  pub left_start : (xs : List X) → Left xs 0
  left_start xs = record { left = λ r j. j }

  module _ {xs : List X} {i : ℕ} (l : Left xs i) where
    -- behind the last
    pub left_end : length xs ≤ i → Judged At (with_earlier xs) None
    left_end h = l.left None (subst (λ ys. Judged At ys None) (sym (at_drop_all (behind (take i xs)) xs i h)) clean)

    module _ (x : X) (within : i < length xs) (is : x ≡ get_or xs i x) where
      cut : behind (take i xs) (drop i xs) ≡ (take i xs, x) ∷ behind (take (i + 1) xs) (drop (i + 1) xs)
      cut =
          at_drop_more (behind (take i xs)) xs i x within
          ∙ ap (λ y. behind (take i xs) (y ∷ drop (i + 1) xs)) (sym is)
          ∙ ap (λ ys. (take i xs, x) ∷ behind ys (drop (i + 1) xs)) (ap (λ y. take i xs ++ y ∷ []) is ∙ sym (take_more xs i x within))

      -- the element at an index is at fault
      pub left_here : (c : C) → At (take i xs, x) c → Judged At (with_earlier xs) (Some c)
      left_here c a = l.left (Some c) (subst (λ ys. Judged At ys (Some c)) (sym cut) (here a))

      -- it is not
      pub left_later : ((c : C) → At (take i xs, x) c → ⊥) → Left xs (i + 1)
      left_later n = record { left = λ r j. l.left r (subst (λ ys. Judged At ys r) (sym cut) (later n j)) }
