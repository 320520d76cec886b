-- The parts of a method: what stands before its body, and its statements.
use Rattle.std.specs.Prelude.{ℕ, List, [], Option, Some}
use Rattle.mg_text.specs.Call.{Name}
use Rattle.jv_tree.specs.Source
use Rattle.jv_core.specs.Tree as Core
use Rattle.jv_core.specs.declared.program.CoreType.{CoreType}
use Rattle.jv_resolve_law.specs.Tables.{◌>>=◌, Tables, interned, type_meant}
use Rattle.jv_resolve_law.specs.Expressions.{Known, Standing}
use Rattle.jv_resolve_law.specs.Statements.{Counted, Counting, stmts}
use Rattle.jv_resolve_law.specs.Members.{Naming, params}
use Rattle.jv_resolve.specs.inner.Naming.{naming}

-- the number of a method's name, and its result
pub record Signed : Type 0 where
  pub name : ℕ
  pub result : CoreType

abbrev pub signed : ℕ → CoreType → Signed
signed name result = record { name = name; result = result }

abbrev pub signature_meant : Tables → List Name → Source.Method → Option (Naming Signed)
signature_meant tables names m = do
  n ← interned names m.name
  ty ← type_meant tables m.result
  Some (naming (signed n.number ty) n.names)

-- the statements of a method, with its parameters in scope
abbrev pub body_meant : Tables → Standing → Source.Method → List Known → Counted → Option (Counting (List Core.Stmt))
body_meant tables at m locals s = do
  o ← params tables m.params locals s
  stmts tables at m.body [] o.locals o.so_far
