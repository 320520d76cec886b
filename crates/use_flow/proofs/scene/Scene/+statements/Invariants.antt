use Rattle.std.proofs.Common.{◌+◌, ◌*◌, ◌++◌, None, drop, map, reverse}
use Rattle.jv_core.specs.View.{stmt_of, stmts_of, group_of, groups_of}
use Rattle.use_rules.specs.Flow.{declared_here}
use Rattle.use_flow.specs.View.{log_of}
use Rattle.use_flow.specs.inner.Followed.{seen}
use Rattle.use_flow.specs.inner.Stepping.{steps}
use Rattle.use_flow.specs.inner.Switching.{follow, rest_of, nows_of}
use Rattle.use_flow.proofs.Stepping.{Running}
use Rattle.use_flow.proofs.Grouping.{Following}
use Rattle.use_flow.proofs.scene.Scene.+statements.Given as goal

abbrev pub invariant-steps-loop-statement : goal.invariant-steps-loop-statement
invariant-steps-loop-statement l =
    Running (seen l.self) (reverse l.outer)
    (steps (seen l.self) (reverse l.initial.course.scope.items) (reverse l.outer) (stmts_of (map stmt_of l.body)) l.initial.now
    (log_of l.initial.course.log))
    (l.initial.course.scope.items ++ declared_here (stmts_of (map stmt_of l.body))) l.initial.course.jumps
    (stmts_of (map stmt_of (drop l.statement-index l.body))) l.now l.course

abbrev pub invariant-step_groups-loop-group : goal.invariant-step_groups-loop-group
invariant-step_groups-loop-group l =
    Following (seen l.self) l.initial.course.scope.items (rest_of l.sprouts) (nows_of l.sprouts)
    (follow (seen l.self) (reverse l.initial.course.scope.items) (rest_of l.sprouts) (nows_of l.sprouts) (groups_of (map group_of l.groups))
    None (log_of l.initial.course.log))
    l.initial.course.jumps (groups_of (map group_of (drop l.group-index l.groups))) l.now l.course

abbrev pub decreases-step : goal.decreases-step
decreases-step l = 8 * goal.size-step l

abbrev pub decreases-step_now : goal.decreases-step_now
decreases-step_now l = 8 * goal.size-step_now l + 1

abbrev pub decreases-step_body : goal.decreases-step_body
decreases-step_body l = 8 * goal.size-step_body l + 2

abbrev pub decreases-step_while : goal.decreases-step_while
decreases-step_while l = 8 * goal.size-step_while l + 3

abbrev pub decreases-step_do : goal.decreases-step_do
decreases-step_do l = 8 * goal.size-step_do l + 3

abbrev pub decreases-step_item : goal.decreases-step_item
decreases-step_item l = 8 * goal.size-step_item l + 2

abbrev pub decreases-steps : goal.decreases-steps
decreases-steps l = 8 * goal.size-steps l + 3

abbrev pub decreases-step_list : goal.decreases-step_list
decreases-step_list l = 8 * goal.size-step_list l + 4

abbrev pub decreases-step_group : goal.decreases-step_group
decreases-step_group l = 8 * goal.size-step_group l + 5

abbrev pub decreases-step_groups : goal.decreases-step_groups
decreases-step_groups l = 8 * goal.size-step_groups l + 6

abbrev pub decreases-step_switch : goal.decreases-step_switch
decreases-step_switch l = 8 * goal.size-step_switch l + 7
