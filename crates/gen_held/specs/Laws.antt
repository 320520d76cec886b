-- The law.
use Rattle.std.specs.Prelude.{◌≡◌, List, Some}
use Rattle.jv_core.specs.Tree as Core
use Rattle.jv_names.specs.Resolves.{AreBounded}
use Rattle.jv_resolve_law.specs.Members.{resolving}
use Rattle.gen_links.specs.Files.{HasPlainNames}
use Rattle.gen_links.specs.Held.{IsHeld}
use Rattle.mg_sources.specs.Files.{Source}
use Rattle.mg_sources.specs.Sources.{Sourced, AreProgram}

-- a core that class files can hold: its names are plain, its texts and names are UTF-8, and its ints are of 32 bits
pub record CanBeHeld (core : Core.Program) : Type 0 where
  pub plain : HasPlainNames core
  pub held : IsHeld core

-- So is each core to which the program of some files is resolved.
abbrev pub WrittenCoresAreHeld : Type 0
WrittenCoresAreHeld = (files : List Source) (sourced : Sourced) (core : Core.Program) → AreProgram files sourced →
    resolving sourced.program ≡ Some core → AreBounded sourced.program core → CanBeHeld core
