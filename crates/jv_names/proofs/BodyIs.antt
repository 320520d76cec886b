-- What is kept of a method's body.
use Rattle.std.proofs.Common.{◌≢◌, [], reverse}
use Rattle.jv_core.specs.declared.program.CoreType.TheVariants as types
use Rattle.jv_core.specs.Tree as Core
use Rattle.jv_core.specs.Statements.{FineAll}
use Rattle.jv_core.specs.Completes.{Completes}
use Rattle.jv_core.specs.Numbering.{numbers_from}

pub record IsKeptBody (p : Core.Program) (m : Core.Method) : Type 0 where
  pub body : FineAll p m (reverse (numbers_from 0 m.params)) [] m.body
  pub returns : m.result ≢ types.Void → Completes m.body → ⊥
