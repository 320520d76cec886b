-- Operands that are taken, and those below them.
use Rattle.std.proofs.Common.{◌≡◌, ℕ, zero, suc, ◌-◌, List, [], ◌∷◌, ◌++◌, length, take, drop, refl, subst, arith}
use Rattle.std.specs.Prelude.{Contains}
use Rattle.std.specs.List.{AllByRecursion}
use Rattle.std.proofs.lemmas.List.{length-append, take_at, drop_at}
use Rattle.cls_verify.specs.Kinds.{Kind}

pub each_of : {A : Type 0} (P : A → Type 0) (xs : List A) (x : A) → AllByRecursion P xs → Contains xs x → P x
each_of P [] x all (i, h, e) = absurd (omega (arith, h))
each_of P (y ∷ xs) x all (zero, h, e) = subst P e all.0
each_of P (y ∷ xs) x all (suc i, h, e) = each_of P xs x all.1 (i, omega (arith, h), e)

pub all_each : {A : Type 0} (P : A → Type 0) (xs : List A) → ((x : A) → Contains xs x → P x) → AllByRecursion P xs
all_each P [] h = tt
all_each P (x ∷ xs) h = (h x (0, omega arith, refl), all_each P xs (λ y c. h y (suc c.0, (let l = c.1 in omega (arith, l)), c.2)))

-- the operands but for the topmost, and those
pub front_of : (below taken : List Kind) (count : ℕ) → count ≡ length taken → take (length (below ++ taken) - count) (below ++ taken)
    ≡ below
front_of below taken count e = take_at below taken (length (below ++ taken) - count)
    (let l = length-append below taken in omega (arith, l, e))

pub back_of : (below taken : List Kind) (count : ℕ) → count ≡ length taken → drop (length (below ++ taken) - count) (below ++ taken) ≡ taken
back_of below taken count e = drop_at below taken (length (below ++ taken) - count)
    (let l = length-append below taken in omega (arith, l, e))
