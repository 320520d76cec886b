use Rattle.std.proofs.Common.{◌≡◌, ◌+◌, ◌*◌, ◌++◌, drop, map, string_bytes}
use Rattle.jv_tree.specs.View.{stmt_of, stmts_of, group_of, groups_of}
use Rattle.jv_print.specs.Layout.{lines, group_lines}
use Rattle.jv_print.proofs.stmts.+stmts.Given as goal

abbrev pub invariant-put_lines-loop-stmt : goal.invariant-put_lines-loop-stmt
invariant-put_lines-loop-stmt l =
    string_bytes l.initial.out ++ lines l.level (stmts_of (map stmt_of l.body)) ≡ string_bytes l.out ++ lines l.level
    (stmts_of (map stmt_of (drop l.stmt-index l.body)))

abbrev pub invariant-put_group_lines-loop-group : goal.invariant-put_group_lines-loop-group
invariant-put_group_lines-loop-group l =
    string_bytes l.initial.out ++ group_lines l.level (groups_of (map group_of l.groups)) ≡ string_bytes l.out ++ group_lines l.level
    (groups_of (map group_of (drop l.group-index l.groups)))

abbrev pub decreases-put_stmt : goal.decreases-put_stmt
decreases-put_stmt l = 8 * goal.size-put_stmt l

abbrev pub decreases-put_body : goal.decreases-put_body
decreases-put_body l = 8 * goal.size-put_body l + 1

abbrev pub decreases-put_lines : goal.decreases-put_lines
decreases-put_lines l = 8 * goal.size-put_lines l + 1

abbrev pub decreases-put_block : goal.decreases-put_block
decreases-put_block l = 8 * goal.size-put_block l + 2

abbrev pub decreases-put_group_lines : goal.decreases-put_group_lines
decreases-put_group_lines l = 8 * goal.size-put_group_lines l + 3

abbrev pub decreases-put_groups : goal.decreases-put_groups
decreases-put_groups l = 8 * goal.size-put_groups l + 4
