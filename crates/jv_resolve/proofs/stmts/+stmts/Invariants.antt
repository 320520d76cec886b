use Rattle.std.proofs.Common.{◌≡◌, ◌+◌, ◌*◌, drop, map}
use Rattle.jv_tree.specs.View as source
use Rattle.jv_core.specs.View.{stmt_of, group_of}
use Rattle.jv_resolve_law.specs.Statements.{stmts, groups}
use Rattle.jv_resolve.specs.inner.Counted.{counted_seen}
use Rattle.jv_resolve.specs.inner.Seen.{tables_seen, standing_seen, around_seen}
use Rattle.jv_resolve.proofs.StmtLoops.{Extends, with_stmts, left_stmts, with_groups, left_groups}
use Rattle.jv_resolve.proofs.stmts.+stmts.Given as goal

abbrev pub decreases-resolve_stmt : goal.decreases-resolve_stmt
decreases-resolve_stmt l = 8 * goal.size-resolve_stmt l

abbrev pub decreases-resolve_item : goal.decreases-resolve_item
decreases-resolve_item l = 8 * goal.size-resolve_item l + 1

abbrev pub decreases-resolve_inner : goal.decreases-resolve_inner
decreases-resolve_inner l = 8 * goal.size-resolve_inner l + 1

abbrev pub decreases-resolve_stmts : goal.decreases-resolve_stmts
decreases-resolve_stmts l = 8 * goal.size-resolve_stmts l + 2

abbrev pub decreases-resolve_group : goal.decreases-resolve_group
decreases-resolve_group l = 8 * goal.size-resolve_group l + 3

abbrev pub decreases-resolve_groups : goal.decreases-resolve_groups
decreases-resolve_groups l = 8 * goal.size-resolve_groups l + 4

abbrev pub invariant-resolve_stmts-loop-stmt : goal.invariant-resolve_stmts-loop-stmt
invariant-resolve_stmts-loop-stmt l = record {
  so_far : stmts (tables_seen l.scope.table.now) (standing_seen l.scope) (source.stmts_of (map source.stmt_of l.stmts))
      (around_seen l.around) l.initial.body.locals (counted_seen l.initial.body)
      ≡ with_stmts (map stmt_of l.resolved.items)
      (left_stmts (tables_seen l.scope.table.now) (standing_seen l.scope) (around_seen l.around) (drop l.stmt-index l.stmts) l.body.locals
      (counted_seen l.body));
  scope : Extends l.initial.body.locals l.body.locals;
}

abbrev pub invariant-resolve_groups-loop-group : goal.invariant-resolve_groups-loop-group
invariant-resolve_groups-loop-group l = record {
  so_far : groups (tables_seen l.scope.table.now) (standing_seen l.scope) (source.groups_of (map source.group_of l.groups))
      (source.enum_of l.of.of.now) (around_seen l.around) l.initial.body.locals
      (counted_seen l.initial.body)
      ≡ with_groups (tables_seen l.scope.table.now) (standing_seen l.scope) (around_seen l.around) (map group_of l.resolved.items)
      (left_groups (tables_seen l.scope.table.now) (standing_seen l.scope) (around_seen l.around) (source.enum_of l.of.of.now)
      (drop l.group-index l.groups) l.body.locals (counted_seen l.body));
  locals : l.body.locals ≡ l.initial.body.locals;
}
