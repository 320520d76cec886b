-- What a method is as far as it is resolved.
use Rattle.std.specs.Prelude.{List, Option, Some, map}
use Rattle.jv_tree.specs.Source.{Stmt, Enum}
use Rattle.jv_tree.specs.View.{OneGroup as SourceGroup}
use Rattle.jv_core.specs.View.{OneGroup, stmts_of, slot_of, loop_of}
use Rattle.jv_core.specs.Tree as Core
use Rattle.jv_resolve_law.specs.Tables.{◌>>=◌, Tables}
use Rattle.jv_resolve_law.specs.Expressions.{Known, Standing}
use Rattle.jv_resolve_law.specs.Statements.{Counted, Counting, Around, Item, item, stmt, stmts, labels_at}
use Rattle.jv_resolve.specs.declared.body.Body.{Body}

abbrev pub counted_seen : Body → Counted
counted_seen b = record { names = b.names; slots = map slot_of b.slots.items; loops = map loop_of b.loops.items }

-- a statement of a block, with what is in scope behind it
abbrev pub item_at : Tables → Standing → Stmt → List Around → List Known → Counted → Option Item
item_at tables at s around locals so_far = item tables at s locals so_far (stmt tables at s around locals so_far)

-- something with what was numbered by then
abbrev pub counting : {A : Type 0} → A → Counted → Counting A
counting x so_far = record { it = x; so_far = so_far }

-- a statement of a block, with what is in scope behind it and what was numbered by then
abbrev pub itemed : Core.Stmt → List Known → Counted → Item
itemed s locals so_far = record { stmt = s; locals = locals; so_far = so_far }

-- a group, with what was numbered by then
abbrev pub group_at : Tables → Standing → SourceGroup → Enum → List Around → List Known → Counted → Option (Counting OneGroup)
group_at tables at g enum around locals so_far = do
  l ← labels_at enum g.labels
  b ← stmts tables at g.body around locals so_far
  Some (record { it = record { labels = l; body = stmts_of b.it; end = g.end }; so_far = b.so_far })
