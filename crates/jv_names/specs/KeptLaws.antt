-- What is kept of the conditions of the sources.
use Rattle.jv_tree.specs.Source.{Stmts}
use Rattle.jv_rules.specs.Program.{Program}
use Rattle.jv_rules.specs.Scope.{Scope}
use Rattle.jv_rules.specs.Completes as written
use Rattle.jv_rules.specs.Faults.{IsWellTyped}
use Rattle.jv_rules.specs.Shape.{IsShaped}
use Rattle.jv_core.specs.Tree as Core
use Rattle.jv_core.specs.Completes as resolved
use Rattle.jv_core.specs.Conditions.{IsCore}
use Rattle.jv_names.specs.Resolves.{Numbers, IsStmts, Resolves}

-- Statements that stand for others complete only where those do.
abbrev pub CompletesAlike : Type 0
CompletesAlike = (program : Program) (core : Core.Program) (method : Core.Method) (scope : Scope) (numbers : Numbers) (body : Stmts)
    (body' : Core.Stmts) →
    IsStmts program core method scope numbers body body' → resolved.Completes body' → written.Completes body

-- The core that stands for a well typed program meets the conditions of cores.
abbrev pub CoreIsKept : Type 0
CoreIsKept = (program : Program) (core : Core.Program) → IsWellTyped program → IsShaped program → Resolves program core → IsCore core
