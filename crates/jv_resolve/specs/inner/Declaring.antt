-- What a declaration says: its local and its statement.
use Rattle.mg_text.specs.Call.{Name}
use Rattle.jv_core.specs.Tree as Core
use Rattle.jv_core.specs.View.{expr_of}
use Rattle.jv_resolve_law.specs.Expressions.{Known}
use Rattle.jv_resolve_law.specs.Statements.{Counted, Counting}
use Rattle.jv_resolve.specs.declared.simple.Declaration.{Declaration}
use Rattle.jv_resolve.specs.inner.Counted.{counting}
use Rattle.jv_scope.specs.Named.{under}

abbrev pub declaration_seen : Name → Declaration → Counted → Counting Known × Core.Stmt
declaration_seen name d so_far = (counting (under name d.local) so_far, Core.Local d.place d.local.slot (expr_of d.value))
