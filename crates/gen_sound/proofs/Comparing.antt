-- Which comparisons are with `null`.
use Rattle.std.proofs.Common.{◌≡◌, ℕ, List, refl}
use Rattle.jv_core.specs.declared.program.CoreType.{CoreType}
use Rattle.jv_core.specs.Tree.{Expr, Null, Method, Program}
use Rattle.jv_core.specs.Types.{Has, IsCompared}
use Rattle.jv_core.specs.Types
use Rattle.gen_rules.specs.Laws.{IsWritten}
use Rattle.gen_rules.specs.Templates.{Both, compared}

-- two operands of which none is `null`
pub both_written : (a b : Expr) → IsWritten a → IsWritten b → compared a b ≡ Both
both_written a (Null q) v w = absurd w
both_written (Null q) b v w = absurd v
both_written _ _ v w = refl

-- what `==` compares as ints is no `null`
pub written : (p : Program) (m : Method) (sc : List ℕ) (a : Expr) (t : CoreType) → IsCompared t → Has p m sc a t → IsWritten a
written p m sc (Null q) t i Types.null = i
written p m sc _ t i h = tt
