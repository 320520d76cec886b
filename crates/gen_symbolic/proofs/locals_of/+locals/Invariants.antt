use Rattle.std.proofs.Common.{◌+◌, ◌*◌, drop, map}
use Rattle.jv_core.specs.View.{stmt_of, stmts_of, group_of, groups_of}
use Rattle.gen_rules.specs.Frames.{locals_of_all, locals_of_groups}
use Rattle.gen_symbolic.proofs.Framing.{AreTaken}
use Rattle.gen_symbolic.proofs.locals_of.+locals.Given as goal

abbrev pub invariant-locals_of_all-loop-stmt : goal.invariant-locals_of_all-loop-stmt
invariant-locals_of_all-loop-stmt l =
    AreTaken l.most l.taken (locals_of_all l.taken (stmts_of (map stmt_of (drop l.stmt-index l.stmts))))
    (locals_of_all l.initial.taken (stmts_of (map stmt_of l.stmts)))

abbrev pub invariant-locals_of_groups-loop-group : goal.invariant-locals_of_groups-loop-group
invariant-locals_of_groups-loop-group l =
    AreTaken l.most l.taken (locals_of_groups l.taken (groups_of (map group_of (drop l.group-index l.groups))))
    (locals_of_groups l.taken (groups_of (map group_of l.groups)))

abbrev pub decreases-locals_of : goal.decreases-locals_of
decreases-locals_of l = 4 * goal.size-locals_of l + 0

abbrev pub decreases-locals_of_all : goal.decreases-locals_of_all
decreases-locals_of_all l = 4 * goal.size-locals_of_all l + 1

abbrev pub decreases-locals_of_groups : goal.decreases-locals_of_groups
decreases-locals_of_groups l = 4 * goal.size-locals_of_groups l + 2
