-- The core of a program in tables: its enums and classes, and then its methods.
use Rattle.std.specs.Prelude.{List, [], Option, Some}
use Rattle.mg_text.specs.Call.{Name}
use Rattle.ts_tree.specs.Typestate.{Typestate}
use Rattle.jv_core.specs.Tree as Core
use Rattle.jv_resolve_law.specs.Tables.{◌>>=◌, Tables}
use Rattle.jv_resolve_law.specs.Members.{enums, classes, methods}

-- enums and classes, and the names that have numbers by then
pub record Headed : Type 0 where
  pub enums : List Core.Enum
  pub classes : List Core.Class
  pub names : List Name

abbrev pub heads : List Core.Enum → List Core.Class → List Name → Headed
heads es cs names = record { enums = es; classes = cs; names = names }

abbrev pub headed : Tables → Option Headed
headed tables = do
  es ← enums [] tables.enums
  cs ← classes tables es.names tables.classes
  Some (heads es.it cs.it cs.names)

abbrev pub core_in : Tables → List Typestate → Option Core.Program
core_in tables typestates = do
  h ← headed tables
  ms ← methods tables h.names tables.classes
  Some (record { classes = h.classes; enums = h.enums; methods = ms.it; typestates = typestates; names = ms.names })
