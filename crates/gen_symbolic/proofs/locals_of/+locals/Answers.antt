use Rattle.gen_expressions.proofs.Seen.{seen}
use Rattle.gen_symbolic.proofs.Framing.{taken, group_taken_more}
use Rattle.std.proofs.Common.{arith}
use Rattle.gen_symbolic.proofs.locals_of.+locals.Goals as goal

pub locals_of_groups-loop-group-preserved : goal.locals_of_groups-loop-group-preserved
locals_of_groups-loop-group-preserved t c =
    group_taken_more c.args.groups.now c.loop-group.group-index c.args.taken c.loop-group.most _ c.loop-group.invariant c.group-item.result
    c.as_slice.result.now c.in_ok-next.next c.max-most.result (omega arith) c.group-item.is c.as_slice.ensures.items c.in_ok-next.ensures
    (search)

pub locals_of-returns-in-Block : goal.locals_of-returns-in-Block
locals_of-returns-in-Block t c = grind (arith, seen)

pub locals_of-returns-in-Break : goal.locals_of-returns-in-Break
locals_of-returns-in-Break t c = grind (arith, seen)

pub locals_of-returns-in-Do : goal.locals_of-returns-in-Do
locals_of-returns-in-Do t c = grind (arith, seen)

pub locals_of-returns-in-Empty : goal.locals_of-returns-in-Empty
locals_of-returns-in-Empty t c = grind (arith, seen)

pub locals_of-returns-in-Local : goal.locals_of-returns-in-Local
locals_of-returns-in-Local t c = grind (arith, seen)

pub locals_of-returns-in-None : goal.locals_of-returns-in-None
locals_of-returns-in-None t c = grind (arith, seen)

pub locals_of-returns-in-Print : goal.locals_of-returns-in-Print
locals_of-returns-in-Print t c = grind (arith, seen)

pub locals_of-returns-in-Switch : goal.locals_of-returns-in-Switch
locals_of-returns-in-Switch t c = grind (arith, seen)

pub locals_of-returns-in-While : goal.locals_of-returns-in-While
locals_of-returns-in-While t c = grind (arith, seen)

pub locals_of-returns-in_ok-second-in-Some : goal.locals_of-returns-in_ok-second-in-Some
locals_of-returns-in_ok-second-in-Some t c = grind (arith, seen)

pub locals_of_all-loop-stmt-init : goal.locals_of_all-loop-stmt-init
locals_of_all-loop-stmt-init t c = grind (arith, taken)

pub locals_of_all-loop-stmt-preserved : goal.locals_of_all-loop-stmt-preserved
locals_of_all-loop-stmt-preserved t c = grind (arith, taken)

pub locals_of_all-returns : goal.locals_of_all-returns
locals_of_all-returns t c = grind (arith, taken)

pub locals_of_groups-loop-group-init : goal.locals_of_groups-loop-group-init
locals_of_groups-loop-group-init t c = grind (arith, taken)

pub locals_of_groups-returns : goal.locals_of_groups-returns
locals_of_groups-returns t c = grind (arith, taken)
