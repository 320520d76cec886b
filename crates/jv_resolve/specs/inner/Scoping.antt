-- A declaration, whose local is in scope from then on.
use Rattle.std.specs.Prelude.{List, Option, Some}
use Rattle.jv_core.specs.Tree as Core
use Rattle.jv_resolve_law.specs.Tables.{◌>>=◌}
use Rattle.jv_resolve_law.specs.Expressions.{Known}
use Rattle.jv_resolve_law.specs.Statements.{Counting, Item, declared}

abbrev pub scope_item : Counting Known × Core.Stmt → List Known → Option Item
scope_item k locals = declared k.0.it locals >>= λ more. Some (record { stmt = k.1; locals = more; so_far = k.0.so_far })
