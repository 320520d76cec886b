-- Quotients of ints, and places in a table.
use Rattle.std.proofs.Common.{◌≡◌, ℕ, zero, suc, ◌-◌, ◌/◌, ◌%◌, ◌^◌, ◌<◌, refl, sym, ap, arith, ℤ, pos, negsuc, List}
use Rattle.std.specs.Prelude.{neg_ℤ, int_div, FitsSigned}
use Rattle.std.specs.Int.{int_wrap, cast_signed, cast_unsigned}
use Rattle.std.proofs.Math.Nat.{div-le_self}
use Rattle.std.proofs.Common.{false, true, nat_le, nat_lt}
use Rattle.std.proofs.lemmas.Bool.Decides.{nat_tests}
use Rattle.std.specs.Int.Signed.{lt_z}
use Rattle.vm_model.specs.Arithmetic.{target_at}
use Rattle.vm_model.specs.Arithmetic.{int_same}
use mir.Syntax.{w32}

below_width : (n : ℕ) → n < 2 ^ 32 → n % 2 ^ 32 ≡ n
below_width n h = omega arith

wrap_pos : (n : ℕ) → n < 2 ^ 32 → cast_signed w32 (cast_unsigned w32 (pos n)) ≡ int_wrap w32 (pos n)
unfolding int_wrap
wrap_pos n h = ap (cast_signed w32) (sym (below_width n h))

wrap_negsuc : (n : ℕ) → n < 2 ^ 32 → cast_signed w32 (cast_unsigned w32 (negsuc n)) ≡ int_wrap w32 (negsuc n)
unfolding int_wrap
wrap_negsuc n h = ap (cast_signed w32) (let e : 2 ^ 32 - suc n ≡ 2 ^ 32 - 1 - n % 2 ^ 32 = omega (arith, below_width n h) in e)

wrap_neg : (n : ℕ) → n < 2 ^ 32 → cast_signed w32 (cast_unsigned w32 (neg_ℤ (pos n))) ≡ int_wrap w32 (neg_ℤ (pos n))
wrap_neg zero h = wrap_pos zero h
wrap_neg (suc n) h = wrap_negsuc n (omega arith)

-- a quotient of ints, cut to 32 bits
pub quotient_wraps : (x y : ℤ) → FitsSigned w32 x → cast_signed w32 (cast_unsigned w32 (int_div x y)) ≡ int_wrap w32 (int_div x y)
quotient_wraps (pos a) (pos b) h = wrap_pos (a / b) (omega (arith, div-le_self a b, h))
quotient_wraps (pos a) (negsuc b) h = wrap_neg (a / suc b) (omega (arith, div-le_self a (suc b), h))
quotient_wraps (negsuc a) (pos b) h = wrap_neg (suc a / b) (omega (arith, div-le_self (suc a) b, h))
quotient_wraps (negsuc a) (negsuc b) h = wrap_pos (suc a / suc b) (omega (arith, div-le_self (suc a) (suc b), h))

-- a divisor that isn't zero
pub nonzero : (y : ℤ) → FitsSigned w32 y → (cast_unsigned w32 y ≡ 0 → ⊥) → int_same y (pos 0) ≡ false
nonzero (pos zero) f h = absurd (h refl)
nonzero (pos (suc n)) f h = let t : nat_le (suc n) 0 ≡ false = grind (arith, nat_tests) in rw t refl
nonzero (negsuc n) f h = refl

-- below a table
pub target_below : (default : ℕ) (targets : List ℕ) (z : ℤ) → lt_z z (pos 0) ≡ true → default ≡ target_at default targets z
target_below default targets (negsuc k) h = refl
target_below default targets (pos k) h = let t : nat_lt k 0 ≡ false = grind (arith, nat_tests) in absurd (cc (h, t))
