-- The classes that run.
use Rattle.std.specs.Prelude.{ℕ}
use Rattle.mg_text.specs.Call.{Name}
use Rattle.vm_model.specs.Program.{Program}
use Rattle.vm_model.specs.Start.{IsMain}

-- the program has a class of this name, and the class has a `main`
pub record HasMain (p : Program) (name : Name) : Type 0 where
  pub class : ℕ
  pub method : ℕ
  pub is : IsMain p name class method
