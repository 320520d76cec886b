-- Judging the elements of a list in a loop.
use Rattle.std.proofs.Common.{◌≡◌, ℕ, ◌+◌, ◌<◌, ◌≤◌, List, ◌∷◌, length, get_or, drop, Option, Some, None, sym, ap, subst, ◌∙◌}
use Rattle.std.proofs.lemmas.List.{at_drop_more, at_drop_all, get_or_default}
use Rattle.mg_read.specs.First.{Judged, clean, here, later}

-- what the elements from an index on answer is the answer
pub record Walk {X C : Type 0} (At : X → C → Type 0) (xs : List X) (i : ℕ) : Type 0 where
  pub left : (r : Option C) → Judged At (drop i xs) r → Judged At xs r

pub walk_start : {X C : Type 0} (At : X → C → Type 0) (xs : List X) → Walk At xs 0
walk_start At xs = record { left = λ r j. j }

module _ {X C : Type 0} (At : X → C → Type 0) (xs : List X) (i : ℕ) (w : Walk At xs i) where
  pub walk_end : length xs ≤ i → Judged At xs None
  walk_end le = w.left None (subst (λ ys. Judged At ys None) (sym (at_drop_all (λ (ys : List X). ys) xs i le)) clean)

  module _ (x : X) (within : i < length xs) (is : x ≡ get_or xs i x) where
    cut : drop i xs ≡ x ∷ drop (i + 1) xs
    cut = at_drop_more (λ (ys : List X). ys) xs i x within ∙ ap (λ y. y ∷ drop (i + 1) xs) (sym is)

    pub walk_here : (c : C) → At x c → Judged At xs (Some c)
    walk_here c a = w.left (Some c) (subst (λ ys. Judged At ys (Some c)) (sym cut) (here a))

    pub walk_later : ((c : C) → At x c → ⊥) → Walk At xs (i + 1)
    walk_later n = record { left = λ r j. w.left r (subst (λ ys. Judged At ys r) (sym cut) (later n j)) }

-- an element that was read at an index
pub reads : {X : Type 0} (xs : List X) (i : ℕ) (d x : X) → i < length xs → get_or xs i d ≡ x → x ≡ get_or xs i x
reads xs i d x within e = sym e ∙ get_or_default xs i d x within
