-- What a turn of a loop over the sets of variables does.
use Rattle.std.proofs.Common.{◌≡◌, ℕ, zero, suc, ◌+◌, ◌<◌, ◌≤◌, List, [], ◌∷◌, ◌++◌, length, take, refl, sym, ap, ◌∙◌, subst, arith}
use Rattle.std.proofs.Common.{add-one}
use Rattle.std.specs.Prelude.{slice_set, slice_index_or}
use Rattle.use_rules.specs.Elements.{Set, union}
use Rattle.use_rules.specs.State.{joined_sets}

-- the sets before the i-th
pub take_next : (i : ℕ) (s : List Set) (x : Set) → i < length s → slice_index_or s i x ≡ x → take (i + 1) s ≡ take i s ++ x ∷ []
take_next i s x h e = rw add-one (go i s h e)
  where
    go : (i : ℕ) (s : List Set) → i < length s → slice_index_or s i x ≡ x → take (suc i) s ≡ take i s ++ x ∷ []
    go i [] h e = absurd (omega arith)
    go zero (y ∷ s) h e = ap (λ z. z ∷ []) e
    go (suc i) (y ∷ s) h e = ap (λ r. y ∷ r) (go i s (omega arith) e)

pub take_end : (i : ℕ) (s : List Set) → length s ≤ i → take i s ≡ s
take_end zero [] h = refl
take_end zero (x ∷ s) h = absurd (omega arith)
take_end (suc i) [] h = refl
take_end (suc i) (x ∷ s) h = ap (λ r. x ∷ r) (take_end i s (omega arith))

-- the first k variables joined
abbrev pub sets_to : ℕ → List Set → List Set → List Set
sets_to zero s t = s
sets_to (suc k) [] [] = []
sets_to (suc k) [] (b ∷ t) = b ∷ sets_to k [] t
sets_to (suc k) (a ∷ s) [] = a ∷ s
sets_to (suc k) (a ∷ s) (b ∷ t) = union a b ∷ sets_to k s t

pub sets_put : (i : ℕ) (s t : List Set) (a b : Set) → i < length (sets_to i s t) → i < length t →
    slice_index_or (sets_to i s t) i a ≡ a → slice_index_or t i b ≡ b → sets_to (i + 1) s t ≡ slice_set (sets_to i s t) i (union a b)
sets_put i s t a b lt lu e f = rw add-one (go i s t lt lu e f)
  where
    go : (i : ℕ) (s t : List Set) → i < length (sets_to i s t) → i < length t →
        slice_index_or (sets_to i s t) i a ≡ a → slice_index_or t i b ≡ b → sets_to (suc i) s t ≡ slice_set (sets_to i s t) i (union a b)
    go i s [] lt lu e f = absurd (omega arith)
    go zero [] (y ∷ t) lt lu e f = absurd (omega arith)
    go zero (x ∷ s) (y ∷ t) lt lu e f = ap (λ z. z ∷ s) (ap (λ z. union z y) e ∙ ap (λ z. union a z) f)
    go (suc i) [] (y ∷ t) lt lu e f = ap (λ r. y ∷ r) (go i [] t (omega arith) (omega arith) e f)
    go (suc i) (x ∷ s) (y ∷ t) lt lu e f = ap (λ r. union x y ∷ r) (go i s t (omega arith) (omega arith) e f)

pub sets_push : (i : ℕ) (s t : List Set) (b : Set) → length (sets_to i s t) ≤ i → i < length t → slice_index_or t i b ≡ b →
    sets_to (i + 1) s t ≡ sets_to i s t ++ b ∷ []
sets_push i s t b le lu f = rw add-one (go i s t le lu f)
  where
    go : (i : ℕ) (s t : List Set) → length (sets_to i s t) ≤ i → i < length t → slice_index_or t i b ≡ b →
        sets_to (suc i) s t ≡ sets_to i s t ++ b ∷ []
    go i s [] le lu f = absurd (omega arith)
    go zero [] (y ∷ t) le lu f = ap (λ x. x ∷ []) f
    go zero (x ∷ s) (y ∷ t) le lu f = absurd (omega arith)
    go (suc i) [] (y ∷ t) le lu f = ap (λ r. y ∷ r) (go i [] t (omega arith) (omega arith) f)
    go (suc i) (x ∷ s) (y ∷ t) le lu f = ap (λ r. union x y ∷ r) (go i s t (omega arith) (omega arith) f)

pub sets_end : (i : ℕ) (s t : List Set) → length t ≤ i → i ≤ length t → sets_to i s t ≡ joined_sets s t
sets_end i s t a b = let e : i ≡ length t = omega arith in subst (λ k. sets_to k s t ≡ joined_sets s t) (sym e) (all s t)
  where
    all : (s t : List Set) → sets_to (length t) s t ≡ joined_sets s t
    all [] [] = refl
    all (x ∷ s) [] = refl
    all [] (y ∷ t) = ap (λ r. y ∷ r) (all [] t)
    all (x ∷ s) (y ∷ t) = ap (λ r. union x y ∷ r) (all s t)

pub ruleset rows = (take_next, take_end, sets_put, sets_push, sets_end)
