-- For private clauses: a statement that stands alone.
use Rattle.std.specs.Prelude.{ℕ, Bool, false}
use Rattle.jv_core.specs.Tree.{Stmt, Local}
use Rattle.fit_uses.specs.Uses.{is_new_of}

-- it declares a local with a new object of this class
abbrev pub makes : (class : ℕ) → Stmt → Bool
makes class (Local p slot e) = is_new_of class e
makes class _ = false
