-- Ints are 32-bit two's complement: sums, differences and products wrap, and quotients are cut toward zero (JVMS 6.5).
use Rattle.std.specs.Prelude.{ℕ, ℤ, pos, negsuc, ◌+ℤ◌, ◌-ℤ◌, ◌*ℤ◌, Bool, not, ◌&&◌, List, Option, Some, None, if◌then◌else◌, int_lt, int_le}
use Rattle.std.specs.Prelude.{int_div, int_rem, slice_get}
use Rattle.std.specs.Int.{int_wrap}
use Rattle.vm_model.specs.Actions.{Operation, Plus, Minus, Times, Divide, Remain, Comparison, Equal, Unequal, Less, AtLeast, Greater}
use Rattle.vm_model.specs.Actions.{AtMost}
use mir.Syntax.{w32}

abbrev pub wrap : ℤ → ℤ
wrap z = int_wrap w32 z

abbrev pub int_same : ℤ → ℤ → Bool
int_same x y = int_le x y && int_le y x

-- none where the divisor is zero
abbrev pub computed : Operation → ℤ → ℤ → Option ℤ
computed Plus x y = Some (wrap (x +ℤ y))
computed Minus x y = Some (wrap (x -ℤ y))
computed Times x y = Some (wrap (x *ℤ y))
computed Divide x y = if int_same y (pos 0) then None else Some (wrap (int_div x y))
computed Remain x y = if int_same y (pos 0) then None else Some (int_rem x y)

abbrev pub compares : Comparison → ℤ → ℤ → Bool
compares Equal x y = int_same x y
compares Unequal x y = not (int_same x y)
compares Less x y = int_lt x y
compares AtLeast x y = not (int_lt x y)
compares Greater x y = int_lt y x
compares AtMost x y = not (int_lt y x)

-- the target of an int in a table that begins at `low`
abbrev pub target_at : ℕ → List ℕ → ℤ → ℕ
target_at default targets (negsuc k) = default
target_at default targets (pos k) = elim (slice_get targets k) [ None ↦ default | Some target ↦ target ]

abbrev pub switched : ℕ → ℤ → List ℕ → ℤ → ℕ
switched default low targets x = target_at default targets (x -ℤ low)
