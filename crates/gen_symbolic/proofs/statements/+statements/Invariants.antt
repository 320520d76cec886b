use Rattle.std.proofs.Common.{max, ◌≡◌, ◌+◌, ◌*◌, drop, map}
use Rattle.jv_core.specs.View.{stmt_of, stmts_of, group_of, groups_of}
use Rattle.gen_symbolic.specs.inner.Drafting.{statements, groups}
use Rattle.gen_expressions.specs.Held.{draft_in, method_in}
use Rattle.gen_symbolic.specs.inner.Held.{around_of}
use Rattle.jv_core.specs.declared.tree.CoreStmt.{size-CoreStmt}
use Rattle.gen_symbolic.proofs.Stating.{AreWritten}
use Rattle.gen_symbolic.proofs.statements.+statements.Given as goal

abbrev pub invariant-statements-loop-stmt : goal.invariant-statements-loop-stmt
invariant-statements-loop-stmt l =
    AreWritten l.coder.core.now (method_in l.coder) (around_of l.around) l.initial.locals l.locals
    (stmts_of (map stmt_of l.stmts)) (stmts_of (map stmt_of (drop l.stmt-index l.stmts))) (draft_in l.coder l.initial.draft)
    (draft_in l.coder l.draft)

abbrev pub invariant-groups-loop-group : goal.invariant-groups-loop-group
invariant-groups-loop-group l = record {
  left :
      groups l.coder.core.now (method_in l.coder) l.locals (around_of l.around) (groups_of (map group_of (drop l.group-index l.list)))
      l.label
      (draft_in l.coder l.draft)
      ≡ groups l.coder.core.now (method_in l.coder) l.initial.locals (around_of l.around) (groups_of (map group_of l.list)) l.first
      (draft_in l.coder l.initial.draft);
  locals : l.locals ≡ l.initial.locals;
}

abbrev pub decreases-statement : goal.decreases-statement
decreases-statement l = 6 * goal.size-statement l

abbrev pub decreases-statements : goal.decreases-statements
decreases-statements l = 6 * goal.size-statements l + 1

abbrev pub decreases-if_true : goal.decreases-if_true
decreases-if_true l = 6 * size-CoreStmt l.inner.now + 1

abbrev pub decreases-if_else : goal.decreases-if_else
decreases-if_else l = 6 * max (size-CoreStmt l.inner.now) (size-CoreStmt l.otherwise.now) + 1

abbrev pub decreases-while_true : goal.decreases-while_true
decreases-while_true l = 6 * size-CoreStmt l.inner.now + 1

abbrev pub decreases-do_while : goal.decreases-do_while
decreases-do_while l = 6 * goal.size-do_while l + 1

abbrev pub decreases-groups : goal.decreases-groups
decreases-groups l = 6 * goal.size-groups l + 2

abbrev pub decreases-switch : goal.decreases-switch
decreases-switch l = 6 * goal.size-switch l + 3
