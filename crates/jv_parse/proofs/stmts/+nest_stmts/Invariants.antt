use Rattle.std.proofs.Common.{◌+◌, ◌*◌, length}
use Rattle.std.specs.Prelude.{map}
use Rattle.mg_read.proofs.Loop.{Left}
use Rattle.jv_tree.specs.View.{stmt_of, group_of}
use Rattle.jv_grammar.specs.Stmts.{is_case, goes_on, stmt_at, item_with, items_with, group_with, groups_with}
use Rattle.jv_parse.proofs.stmts.+nest_stmts.Given as goal

-- Each call goes one level in, or one rank down.
abbrev pub decreases-stmt_of : goal.decreases-stmt_of
decreases-stmt_of l = 10 * l.levels + 0

abbrev pub decreases-item_of : goal.decreases-item_of
decreases-item_of l = 10 * l.levels + 1

abbrev pub decreases-items_of : goal.decreases-items_of
decreases-items_of l = 10 * l.levels + 2

abbrev pub decreases-block_of : goal.decreases-block_of
decreases-block_of l = 10 * l.levels + 3

abbrev pub decreases-inner_of : goal.decreases-inner_of
decreases-inner_of l = 10 * l.levels + 1

abbrev pub decreases-if_of : goal.decreases-if_of
decreases-if_of l = 10 * l.levels + 2

abbrev pub decreases-while_of : goal.decreases-while_of
decreases-while_of l = 10 * l.levels + 2

abbrev pub decreases-do_of : goal.decreases-do_of
decreases-do_of l = 10 * l.levels + 2

abbrev pub decreases-loop_of : goal.decreases-loop_of
decreases-loop_of l = 10 * l.levels + 3

abbrev pub decreases-group_of : goal.decreases-group_of
decreases-group_of l = 10 * l.levels + 3

abbrev pub decreases-groups_of : goal.decreases-groups_of
decreases-groups_of l = 10 * l.levels + 4

abbrev pub decreases-switch_of : goal.decreases-switch_of
decreases-switch_of l = 10 * l.levels + 5

abbrev pub invariant-items_of-items : goal.invariant-items_of-items
invariant-items_of-items l = Left goes_on (item_with l.levels (stmt_at l.levels)) (map stmt_of l.stmts.items) l.rest
    (items_with l.levels (stmt_at l.levels) l.fn.tokens)

abbrev pub decreases-items_of-items : goal.decreases-items_of-items
decreases-items_of-items l = length l.rest

abbrev pub invariant-groups_of-turns : goal.invariant-groups_of-turns
invariant-groups_of-turns l = Left is_case (group_with l.levels (stmt_at l.levels)) (map group_of l.groups.items) l.rest
    (groups_with l.levels (stmt_at l.levels) l.fn.tokens)

abbrev pub decreases-groups_of-turns : goal.decreases-groups_of-turns
decreases-groups_of-turns l = length l.rest
