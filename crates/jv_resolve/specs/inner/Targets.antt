-- What is assigned to.
use Rattle.std.specs.Prelude.{List, Option}
use Rattle.jv_tree.specs.Source.{Expr}
use Rattle.jv_core.specs.declared.tree.CoreVar.{CoreVar}
use Rattle.jv_resolve_law.specs.Tables.{◌>>=◌, Tables}
use Rattle.jv_resolve_law.specs.Expressions.{Known, Standing, resolved, variable_in}

-- the variable that an expression is resolved to
abbrev pub target_meant : Tables → Standing → List Known → Expr → Option CoreVar
target_meant tables at locals e = resolved tables at locals e >>= λ r. variable_in r.expr
