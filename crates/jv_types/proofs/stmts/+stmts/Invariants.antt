use Rattle.std.proofs.Common.{◌≡◌, ◌+◌, ◌*◌, drop, map}
use Rattle.jv_tree.specs.View.{stmt_of, stmts_of, group_of, groups_of}
use Rattle.jv_rules.specs.Scope.{within}
use Rattle.jv_rules.specs.Scope as targets
use Rattle.jv_types.specs.inner.Scopes.{scope_seen}
use Rattle.jv_types.specs.inner.Stating.{groups_fault}
use Rattle.jv_types.proofs.StmtLoops.{AreJudged}
use Rattle.jv_types.proofs.stmts.+stmts.Given as goal

abbrev pub decreases-check_stmt : goal.decreases-check_stmt
decreases-check_stmt l = 4 * goal.size-check_stmt l

abbrev pub decreases-check_stmts : goal.decreases-check_stmts
decreases-check_stmts l = 4 * goal.size-check_stmts l + 1

abbrev pub decreases-check_groups : goal.decreases-check_groups
decreases-check_groups l = 4 * goal.size-check_groups l + 2

abbrev pub decreases-check_inner : goal.decreases-check_inner
decreases-check_inner l = 4 * goal.size-check_inner l + 1

abbrev pub invariant-check_stmts-loop-stmt : goal.invariant-check_stmts-loop-stmt
invariant-check_stmts-loop-stmt l = AreJudged (scope_seen l.scope l.initial.locals) (scope_seen l.scope l.locals)
    l.initial.locals l.locals
    (stmts_of (map stmt_of l.stmts)) (stmts_of (map stmt_of (drop l.stmt-index l.stmts)))

abbrev pub invariant-check_groups-loop-group : goal.invariant-check_groups-loop-group
invariant-check_groups-loop-group l = record {
  left : groups_fault (within targets.Switch (scope_seen l.scope l.initial.locals)) (groups_of (map group_of l.groups)) ≡ groups_fault
      (within targets.Switch (scope_seen l.scope l.initial.locals)) (groups_of (map group_of (drop l.group-index l.groups)));
  locals : l.locals ≡ l.initial.locals;
}
