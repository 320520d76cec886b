-- The law.
use Rattle.std.specs.Prelude.{◌≡◌, List, Some}
use Rattle.jv_core.specs.Tree as Core
use Rattle.jv_names.specs.Resolves.{AreBounded}
use Rattle.jv_resolve_law.specs.Members.{resolving}
use Rattle.jv_rules.specs.Program.{Program}
use Rattle.mg_sources.specs.Files.{Source}
use Rattle.mg_accepted.specs.Program.{AreWellTyped, HaveCore}

-- The program that files are is resolved to a core where it is well typed, and that is theirs where it is within the bounds.
abbrev pub WellTypedIsResolved : Type 0
WellTypedIsResolved = (files : List Source) (program : Program) → AreWellTyped files program →
    (core : Core.Program) × (resolving program ≡ Some core) × (AreBounded program core → HaveCore files core)
