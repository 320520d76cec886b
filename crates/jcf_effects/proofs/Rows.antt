-- The rows of the program's table are those of the opcodes, in the order of their numbers.
use Rattle.std.proofs.Common.{◌≡◌, ℕ, zero, suc, ◌+◌, ◌<◌, ◌≤◌, Bool, true, false, ◌&&◌, List, [], ◌∷◌, length, get_or, map, Some, None}
use Rattle.std.proofs.Common.{nat_eq, refl, sym, ◌∙◌, arith}
use Rattle.std.proofs.lemmas.Bool.Decides.{nat_tests}
use Rattle.jcf_effects.specs.declared.Row.{Row}
use Rattle.jcf_effects.specs.declared.effect.Effect.{Effect}
use Rattle.jcf_effects.specs.declared.operands.Operands.{Operands}
use Rattle.jcf_effects.specs.declared.table.TheConstants.{TABLE}
use Rattle.jcf_effects.specs.Table.{Opcode, opcodes, row_among, row_of}

-- these are numbered from k on
unfoldable numbered : ℕ → List Opcode → Bool
numbered k [] = true
numbered k (o ∷ os) = nat_eq o.number k && numbered (suc k) os

both : (a b : Bool) → (a && b) ≡ true → (a ≡ true) × (b ≡ true)
both a b e = grind (arith, nat_tests)

here : (o : Opcode) (os : List Opcode) (n : ℕ) → o.number ≡ n → row_among (o ∷ os) n ≡ Some o.row
here o os n e = let t : nat_eq o.number n ≡ true = grind (arith, nat_tests) in rw t refl

later : (o : Opcode) (os : List Opcode) (n : ℕ) → o.number < n → row_among (o ∷ os) n ≡ row_among os n
later o os n e = let t : nat_eq o.number n ≡ false = grind (arith, nat_tests) in rw t refl

-- a row as the program's table has it, and back
abbrev parted : Opcode → Operands × Effect
parted o = (o.row.operands, o.row.effect)

abbrev pub joined : Operands × Effect → Row
joined p = record { operands = p.0; effect = p.1 }

found : (os : List Opcode) (k n i : ℕ) (d : Operands × Effect) → numbered k os ≡ true → n ≡ k + i → i < length os
    → row_among os n ≡ Some (joined (get_or (map parted os) i d))
unfolding numbered
found [] k n i d e same lt = absurd (omega arith)
found (o ∷ os) k n zero d e same lt =
    let t = both (nat_eq o.number k) (numbered (suc k) os) e in
    let is : o.number ≡ n = grind (arith, nat_tests) in
    here o os n is
found (o ∷ os) k n (suc i) d e same lt =
    let t = both (nat_eq o.number k) (numbered (suc k) os) e in
    let is : o.number < n = grind (arith, nat_tests) in
    later o os n is ∙ found os (suc k) n i d t.1 (omega arith) (omega arith)

none : (os : List Opcode) (k n : ℕ) → numbered k os ≡ true → k + length os < suc n → row_among os n ≡ None
unfolding numbered
none [] k n e lt = refl
none (o ∷ os) k n e lt =
    let t = both (nat_eq o.number k) (numbered (suc k) os) e in
    let is : o.number < n = grind (arith, nat_tests) in
    later o os n is ∙ none os (suc k) n t.1 (omega arith)

pub row_at : (n : ℕ) (d : Operands × Effect) → n < 202 → Some (joined (get_or TABLE n d)) ≡ row_of n
unfolding numbered row_of
row_at n d lt = sym (found opcodes 0 n n d refl (omega arith) lt)

pub no_row : (n : ℕ) → 202 ≤ n → None ≡ row_of n
unfolding numbered row_of
no_row n lt = sym (none opcodes 0 n refl (omega arith))
