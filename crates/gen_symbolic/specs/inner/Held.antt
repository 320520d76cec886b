-- What the program's values say: what stands around a statement and is in scope behind it, and depths.
use Rattle.std.specs.Prelude.{ℕ, suc, List, [], ◌∷◌, Option, Some, None}
use Rattle.jv_core.specs.Tree.{Stmt, Local}
use Rattle.gen_rules.specs.Around as rules
use Rattle.gen_rules.specs.Frames.{Depths}
use Rattle.gen_symbolic.specs.declared.around.Around.{Around}
use Rattle.gen_symbolic.specs.declared.around.Around.TheVariants as kept
use Rattle.gen_symbolic.specs.declared.frames.Depths.{Depths as KeptDepths}

abbrev pub around_of : Around → List rules.Around
around_of kept.Method = []
around_of (kept.Loop' number end next p outer) = rules.Loop number end next ∷ around_of outer
around_of (kept.Switch' end p outer) = rules.Switch end ∷ around_of outer

abbrev pub depths_of : KeptDepths → Depths
depths_of d = record { value = d.value; jump = d.jump }

-- the slot that a statement declares
abbrev pub declared : Stmt → Option ℕ
declared (Local q k e) = Some k
declared _ = None

-- the slots in scope, with one more that is declared
abbrev pub with_slot : Option ℕ → (scope : List ℕ) → List ℕ
with_slot (Some k) scope = k ∷ scope
with_slot None scope = scope

-- the slots in scope behind a statement
abbrev pub behind : Stmt → (scope : List ℕ) → List ℕ
behind s scope = with_slot (declared s) scope

-- the locals that are taken, with one more for a slot that is declared
abbrev pub taken_with : (taken : ℕ) → Option ℕ → ℕ
taken_with n (Some k) = suc n
taken_with n None = n

-- the locals that are taken behind a statement
abbrev pub taken_behind : (taken : ℕ) → Stmt → ℕ
taken_behind n s = taken_with n (declared s)
