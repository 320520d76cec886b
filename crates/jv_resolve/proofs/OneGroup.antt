-- One group of a switch.
use Rattle.std.proofs.Common.{◌≡◌, ℕ, List, map, Option, Some, ap, ◌∙◌}
use Rattle.mg_text.specs.Call.{Name}
use Rattle.mg_text.specs.declared.place.Place.{Place}
use Rattle.jv_tree.specs.declared.tree.Group.{Group as KeptGroup, out-Group, fold_out-Group}
use Rattle.jv_tree.specs.Source
use Rattle.jv_tree.specs.View as source
use Rattle.jv_core.specs.declared.tree.CoreGroup.{CoreGroup, out-CoreGroup, fold_out-CoreGroup}
use Rattle.jv_core.specs.Tree as Core
use Rattle.jv_core.specs.View as core
use Rattle.jv_resolve_law.specs.Tables.{◌>>=◌, Tables}
use Rattle.jv_resolve_law.specs.Expressions.{Known, Standing}
use Rattle.jv_resolve_law.specs.Statements.{Counted, Counting, Around, stmts, labels_at}
use Rattle.jv_resolve.specs.declared.given.Unresolved.{Unresolved}
use Rattle.jv_resolve.specs.inner.Counted.{counting, group_at}
use Rattle.jv_resolve.specs.inner.Gives.{Fails}
use Rattle.jv_resolve.proofs.Chains.{fails_then, fails_as}

abbrev pub source_group : List (Option Name) → Source.Stmts → Place → source.OneGroup
source_group labels body end = record { labels = labels; body = body; end = end }

abbrev pub core_group : List (Option ℕ) → Core.Stmts → Place → core.OneGroup
core_group labels body end = record { labels = labels; body = body; end = end }

pub source_group-is : (g : KeptGroup) → source.group_of g ≡ source_group (out-Group g).labels.items
    (source.stmts_of (map source.stmt_of (out-Group g).body.items)) (out-Group g).end
unfolding source.stmt_of source.group_of
source_group-is g = fold_out-Group (Place → Source.Stmt) source.OneGroup Source.Stmt source.stmt_layer source.group_layer
    source.placed_stmt_layer g

pub core_group-is : (g : CoreGroup) → core.group_of g ≡ core_group (out-CoreGroup g).labels.items
    (core.stmts_of (map core.stmt_of (out-CoreGroup g).body.items)) (out-CoreGroup g).end
unfolding core.stmt_of core.group_of
core_group-is g = fold_out-CoreGroup (Place → Core.Stmt) core.OneGroup Core.Stmt core.stmt_layer core.group_layer core.placed_stmt_layer g

module _ (tables : Tables) (at : Standing) (enum : Source.Enum) (around : List Around) (locals : List Known) (s : Counted)
    (labels : List (Option Name)) (body : Source.Stmts) (end : Place) where
  abbrev then_body : List (Option ℕ) → Option (Counting core.OneGroup)
  then_body ls = stmts tables at body around locals s >>= λ b. Some (counting (core_group ls (core.stmts_of b.it) end) b.so_far)

  pub group_made : (ls : List (Option ℕ)) (b : Counting (List Core.Stmt)) → labels_at enum labels ≡ Some ls →
      stmts tables at body around locals s ≡ Some b →
      group_at tables at (source_group labels body end) enum around locals s ≡ Some (counting (core_group ls (core.stmts_of b.it) end)
      b.so_far)
  group_made ls b h k = ap (λ o. o >>= then_body) h ∙ ap (λ o. o >>= λ a. Some (counting (core_group ls (core.stmts_of a.it) end) a.so_far))
      k

  pub group_labels_fail : (err : Unresolved) → Fails err (labels_at enum labels) →
      Fails err (group_at tables at (source_group labels body end) enum around locals s)
  group_labels_fail err h = fails_then err (labels_at enum labels) then_body h

  pub group_body_fails : (err : Unresolved) (ls : List (Option ℕ)) → labels_at enum labels ≡ Some ls →
      Fails err (stmts tables at body around locals s) →
      Fails err (group_at tables at (source_group labels body end) enum around locals s)
  group_body_fails err ls h k =
      fails_as err _ _ (ap (λ o. o >>= then_body) h) (fails_then err (stmts tables at body around locals s)
      (λ a. Some (counting (core_group ls (core.stmts_of a.it) end) a.so_far)) k)
