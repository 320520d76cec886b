-- Comparisons of ints, as the meaning and the machine tell them.
use Rattle.std.proofs.Common.{◌≡◌, ℕ, Bool, true, false, not, ℤ, pos, refl, arith}
use Rattle.std.specs.Prelude.{int_lt, int_le, nat_eq}
use Rattle.vm_model.specs.Arithmetic.{int_same}

pub lt_not_le : (x y : ℤ) → int_lt x y ≡ not (int_le y x)
lt_not_le x y = grind arith

pub le_not_lt : (x y : ℤ) → int_le x y ≡ not (int_lt y x)
le_not_lt x y = grind arith

pub not_not : (b : Bool) → not (not b) ≡ b
not_not true = refl
not_not false = refl

pub same_positions : (n k : ℕ) → int_same (pos n) (pos k) ≡ nat_eq n k
same_positions n k = grind arith
