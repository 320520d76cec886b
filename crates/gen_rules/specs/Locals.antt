-- The local of a method's frame in which each slot stands: `this` or the array of `main` first, then the parameters,
-- then each local at the next free number, which is free again where its scope ends.
use Rattle.std.specs.Prelude.{ℕ, ◌+◌, List, [], ◌∷◌, length, reverse, nat_eq, if◌then◌else◌}
use Rattle.jv_core.specs.declared.program.MethodKind.{MethodKind}
use Rattle.jv_core.specs.declared.program.MethodKind.TheVariants as kinds
use Rattle.jv_core.specs.Tree.{Method}
use Rattle.jv_core.specs.Numbering.{numbers_from}

-- the first local of a slot: the object on which a method runs is local 0, and so is the array that `main` takes
abbrev pub first_local : MethodKind → ℕ
first_local kinds.Static = 0
first_local _ = 1

-- the next free local where these slots are in scope
abbrev pub next_local : MethodKind → (scope : List ℕ) → ℕ
next_local kind scope = first_local kind + length scope

-- the local of a slot, where these slots are in scope, the innermost first
abbrev pub local_of : MethodKind → (scope : List ℕ) → (slot : ℕ) → ℕ
local_of kind [] slot = 0
local_of kind (k ∷ scope) slot = if nat_eq k slot then next_local kind scope else local_of kind scope slot

-- at the beginning of a method its parameters are in scope, the last innermost
abbrev pub params_in_scope : Method → List ℕ
params_in_scope m = reverse (numbers_from 0 m.params)
