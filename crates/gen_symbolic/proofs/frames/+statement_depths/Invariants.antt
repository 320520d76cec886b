use Rattle.std.proofs.Common.{◌≡◌, ◌+◌, ◌*◌, drop, map, max}
use Rattle.jv_core.specs.View.{stmt_of, stmts_of, group_of, groups_of}
use Rattle.gen_rules.specs.Frames.{depth_of_all, depth_of_groups}
use Rattle.gen_expressions.specs.Held.{method_in}
use Rattle.jv_core.specs.declared.tree.CoreStmt.{size-CoreStmt}
use Rattle.gen_symbolic.proofs.frames.+statement_depths.Given as goal

abbrev pub invariant-depth_of_all-loop-stmt : goal.invariant-depth_of_all-loop-stmt
invariant-depth_of_all-loop-stmt l =
    max l.depth (depth_of_all l.coder.core.now (method_in l.coder) (stmts_of (map stmt_of (drop l.stmt-index l.stmts))))
    ≡ depth_of_all l.coder.core.now (method_in l.coder) (stmts_of (map stmt_of l.stmts))

abbrev pub invariant-depth_of_groups-loop-group : goal.invariant-depth_of_groups-loop-group
invariant-depth_of_groups-loop-group l =
    max l.depth (depth_of_groups l.coder.core.now (method_in l.coder) (groups_of (map group_of (drop l.group-index l.groups))))
    ≡ depth_of_groups l.coder.core.now (method_in l.coder) (groups_of (map group_of l.groups))

abbrev pub decreases-depth_of : goal.decreases-depth_of
decreases-depth_of l = 4 * goal.size-depth_of l + 0

abbrev pub decreases-depth_of_all : goal.decreases-depth_of_all
decreases-depth_of_all l = 4 * goal.size-depth_of_all l + 1

abbrev pub decreases-guarded_depth : goal.decreases-guarded_depth
decreases-guarded_depth l = 4 * size-CoreStmt l.inner.now + 1

abbrev pub decreases-depth_of_groups : goal.decreases-depth_of_groups
decreases-depth_of_groups l = 4 * goal.size-depth_of_groups l + 2
