-- What class files are written of.
use Rattle.std.specs.Prelude.{List}
use Rattle.jv_core.specs.Tree as Core
use Rattle.mg_sources.specs.Files.{Source}
use Rattle.mg_accepted.specs.Program.{HaveCore}

-- some files are a program of which this is the core
abbrev pub IsOfFiles : Core.Program → Type 0
IsOfFiles core = (files : List Source) × HaveCore files core
