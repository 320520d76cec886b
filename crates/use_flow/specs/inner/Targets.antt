-- What is known of a method whose contexts tell which states offer it.
use Rattle.std.specs.Prelude.{◌≡◌, ℕ, true, Some, slice_get}
use Rattle.mg_sets.specs.Sets.{has}
use Rattle.jv_core.specs.Tree.{Method}
use Rattle.jv_core.specs.declared.program.MethodKind.TheVariants as kinds
use Rattle.use_rules.specs.Fits.{reached_set}
use Rattle.use_flow.specs.View.{reached_of}
use Rattle.use_flow.specs.declared.targets.MethodKey.{MethodKey}
use Rattle.use_flow.specs.inner.Followed.{Followed}

-- the number is that of a protocol method of the class and the name, and calls lead to the state
pub record IsTold (s : Followed) (key : MethodKey) (state : ℕ) : Type 0 where
  pub method : Method
  pub at : slice_get s.program.methods key.number ≡ Some method
  pub kind : method.kind ≡ kinds.Protocol
  pub class : method.class ≡ key.class
  pub name : method.name ≡ key.name.0
  pub reached : has (reached_set s.program (reached_of s.held) key.class) state ≡ true
