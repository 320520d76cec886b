-- What isn't met is passed over.
use Rattle.std.proofs.Common.{◌≡◌, ℕ, zero, suc, ◌+◌, ◌<◌, Bool, false, List, [], ◌∷◌, length, drop, get_or}
use Rattle.std.proofs.Common.{sym, ap, ◌∙◌, cond, arith, Some}
use Rattle.std.specs.List.{find}

pub passed_over : {C : Type 0} (test : C → Bool) (cs : List C) (i : ℕ) (d : C) → i < length cs → test (get_or cs i d) ≡ false →
    find test (drop (i + 1) cs) ≡ find test (drop i cs)
passed_over test [] i d within other = absurd (omega (arith, within))
passed_over test (c ∷ cs) zero d within other = sym (ap (λ b. cond b (Some c) (find test cs)) other)
passed_over test (c ∷ cs) (suc i) d within other =
    let k : suc i + 1 ≡ suc (i + 1) = omega arith in
    ap (λ n. find test (drop n (c ∷ cs))) k ∙ passed_over test cs i d (omega (arith, within)) other
