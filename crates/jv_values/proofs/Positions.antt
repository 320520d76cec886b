-- Where a search in a list finds what it looks for.
use Rattle.std.proofs.Common.{◌≡◌, ℕ, suc, ◌+◌, Bool, true, false, not, cond, nat_lt, List, ◌∷◌, length, Option, Some, None, option_map}
use Rattle.std.proofs.Common.{refl, ap, ◌∙◌, arith}
use Rattle.std.specs.List.{position, position_or_len}
use Rattle.std.proofs.lemmas.Bool.Decides.{nat_tests}

position_first : (b : Bool) (n len : ℕ) →
    cond (nat_lt (cond (not b) (1 + n) 0) (suc len)) (Some (cond (not b) (1 + n) 0)) None ≡ cond b (Some 0)
    (option_map suc (cond (nat_lt n len) (Some n) None))
position_first true n len =
    let e : nat_lt 0 (suc len) ≡ true = grind (arith, nat_tests) in
    ap (λ t. cond t (Some 0) None) e
position_first false n len =
    let e : nat_lt (1 + n) (suc len) ≡ nat_lt n len = grind (arith, nat_tests) in
    let s : 1 + n ≡ suc n = omega arith in
    ap (λ t. cond t (Some (1 + n)) None) e ∙ ap (λ k. cond (nat_lt n len) (Some k) None) s ∙ go (nat_lt n len)
  where
    go : (t : Bool) → cond t (Some (suc n)) None ≡ option_map suc (cond t (Some n) None)
    go true = refl
    go false = refl

-- at the first element, or one further than in the rest
pub position_is : {A : Type 0} (p : A → Bool) (x : A) (xs : List A) → position p (x ∷ xs) ≡ cond (p x) (Some 0)
    (option_map suc (position p xs))
position_is p x xs = position_first (p x) (position_or_len p xs) (length xs)
