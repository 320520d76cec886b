-- Declarations as they are written.
use Rattle.std.specs.Prelude.{List, Option, Some, None}
use Rattle.mg_text.specs.Call.{Name}
use Rattle.mg_text.specs.declared.place.Place.{Place}
use Rattle.ts_tree.specs.declared.parts.TypeName.{TypeName}
use Rattle.jv_tree.specs.Source
use Rattle.jv_resolve_law.specs.Tables.{◌>>=◌, Tables}
use Rattle.jv_resolve_law.specs.Expressions.{Known, Standing}
use Rattle.jv_resolve_law.specs.Statements.{Counted, Item, declared, local}

-- its place, a type, a name and a first value
pub record WrittenLocal : Type 0 where
  pub place : Place
  pub ty : TypeName
  pub name : Name
  pub value : Source.Expr

-- the declaration that a statement is
abbrev pub written_in : Source.Stmt → Option WrittenLocal
written_in (Source.Local p ty name e) = Some (record { place = p; ty = ty; name = name; value = e })
written_in _ = None

-- a declaration of a block, whose local is in scope from then on
abbrev pub local_item : Tables → Standing → WrittenLocal → List Known → Counted → Option Item
local_item tables at w locals s = do
  k ← local tables at w.place w.ty w.name w.value locals s
  more ← declared k.0.it locals
  Some (record { stmt = k.1; locals = more; so_far = k.0.so_far })
