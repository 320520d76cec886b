-- Files that are written.
use Rattle.std.specs.Prelude.{ℕ, List}
use Rattle.mg_text.specs.Call.{Name}

-- a file that is written
pub record Output : Type 0 where
  pub name : Name
  pub text : List ℕ
