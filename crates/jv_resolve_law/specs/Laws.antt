-- Resolving is right, and total for programs that assign to variables alone.
use Rattle.std.specs.Prelude.{◌≡◌, ◌≢◌, Some, None}
use Rattle.jv_rules.specs.Program.{Program}
use Rattle.jv_rules.specs.Faults.{IsWellTyped}
use Rattle.jv_core.specs.Tree as Core
use Rattle.jv_names.specs.Resolves.{AreBounded, Resolves}
use Rattle.jv_resolve_law.specs.Members.{resolving}
use Rattle.jv_resolve_law.specs.Targets.{OnlyVariablesAreAssigned}

-- What a well typed program is resolved to stands for it, where it is within the bounds.
abbrev pub ResolvingIsRight : Type 0
ResolvingIsRight = (program : Program) (core : Core.Program) → IsWellTyped program →
    resolving program ≡ Some core → AreBounded program core → Resolves program core

-- A well typed program that assigns to variables alone is resolved.
abbrev pub ResolvingIsTotal : Type 0
ResolvingIsTotal = (program : Program) → IsWellTyped program → OnlyVariablesAreAssigned program → resolving program ≢ None
