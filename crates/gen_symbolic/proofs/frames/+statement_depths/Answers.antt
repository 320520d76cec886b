use Rattle.gen_expressions.proofs.Seen.{seen}
use Rattle.gen_symbolic.proofs.Framing.{statement_depths, group_depth_more}
use Rattle.std.proofs.Common.{arith}
use Rattle.gen_expressions.specs.Held.{method_in}
use Rattle.gen_symbolic.proofs.frames.+statement_depths.Goals as goal

pub depth_of_groups-loop-group-preserved : goal.depth_of_groups-loop-group-preserved
depth_of_groups-loop-group-preserved t c =
    group_depth_more c.args.coder.now.core.now (method_in c.args.coder.now) c.args.groups.now c.loop-group.group-index c.loop-group.depth
    _
    c.loop-group.invariant c.group-item.result c.as_slice.result.now c.in_ok-next.next c.max-depth.result (omega arith) c.group-item.is
    c.as_slice.ensures.items c.in_ok-next.ensures (search)

pub depth_of-returns-in-Block : goal.depth_of-returns-in-Block
depth_of-returns-in-Block t c = grind (arith, seen)

pub depth_of-returns-in-Break : goal.depth_of-returns-in-Break
depth_of-returns-in-Break t c = grind (arith, seen)

pub depth_of-returns-in-Break-2 : goal.depth_of-returns-in-Break-2
depth_of-returns-in-Break-2 t c = grind (arith, seen)

pub depth_of-returns-in-Do : goal.depth_of-returns-in-Do
depth_of-returns-in-Do t c = grind (arith, seen)

pub depth_of-returns-in-Empty : goal.depth_of-returns-in-Empty
depth_of-returns-in-Empty t c = grind (arith, seen)

pub depth_of-returns-in-Eval : goal.depth_of-returns-in-Eval
depth_of-returns-in-Eval t c = grind (arith, seen)

pub depth_of-returns-in-Local : goal.depth_of-returns-in-Local
depth_of-returns-in-Local t c = grind (arith, seen)

pub depth_of-returns-in-None : goal.depth_of-returns-in-None
depth_of-returns-in-None t c = grind (arith, seen)

pub depth_of-returns-in-None-value : goal.depth_of-returns-in-None-value
depth_of-returns-in-None-value t c = grind (arith, seen)

pub depth_of-returns-in-Some-value : goal.depth_of-returns-in-Some-value
depth_of-returns-in-Some-value t c = grind (arith, seen)

pub depth_of-returns-in-While : goal.depth_of-returns-in-While
depth_of-returns-in-While t c = grind (arith, seen)

pub depth_of-returns-in_ok-depth-in-Assign : goal.depth_of-returns-in_ok-depth-in-Assign
depth_of-returns-in_ok-depth-in-Assign t c = grind (arith, seen)

pub depth_of-returns-in_ok-depth-in-Print : goal.depth_of-returns-in_ok-depth-in-Print
depth_of-returns-in_ok-depth-in-Print t c = grind (arith, seen)

pub depth_of-returns-in_ok-groups-in-Switch : goal.depth_of-returns-in_ok-groups-in-Switch
depth_of-returns-in_ok-groups-in-Switch t c = grind (arith, seen)

pub depth_of-returns-in_ok-otherwise-in-Some : goal.depth_of-returns-in_ok-otherwise-in-Some
depth_of-returns-in_ok-otherwise-in-Some t c = grind (arith, seen)

pub depth_of_all-returns : goal.depth_of_all-returns
depth_of_all-returns t c = grind (arith, statement_depths)

pub depth_of_groups-returns : goal.depth_of_groups-returns
depth_of_groups-returns t c = grind (arith, statement_depths)
