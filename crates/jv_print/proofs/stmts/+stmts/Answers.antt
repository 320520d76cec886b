-- By `grind` at once, since a search finds nothing here.
use Rattle.std.proofs.Common.{arith}
use Rattle.jv_print.proofs.Laid.{group_steps, laid, line_steps}
use Rattle.jv_print.proofs.stmts.+stmts.Goals as goal

pub put_block-returns : goal.put_block-returns
put_block-returns t c = grind (arith, laid)

pub put_body-returns : goal.put_body-returns
put_body-returns t c = grind (arith, laid)

pub put_group_lines-loop-group-preserved : goal.put_group_lines-loop-group-preserved
put_group_lines-loop-group-preserved t c = grind (arith, group_steps)

pub put_group_lines-returns : goal.put_group_lines-returns
put_group_lines-returns t c = grind (arith, group_steps)

pub put_groups-returns : goal.put_groups-returns
put_groups-returns t c = grind (arith, laid)

pub put_lines-loop-stmt-preserved : goal.put_lines-loop-stmt-preserved
put_lines-loop-stmt-preserved t c = grind (arith, line_steps)

pub put_lines-returns : goal.put_lines-returns
put_lines-returns t c = grind (arith, line_steps)

pub put_stmt-returns-in-Assign : goal.put_stmt-returns-in-Assign
put_stmt-returns-in-Assign t c = grind (arith, laid)

pub put_stmt-returns-in-Block : goal.put_stmt-returns-in-Block
put_stmt-returns-in-Block t c = grind (arith, laid)

pub put_stmt-returns-in-Break : goal.put_stmt-returns-in-Break
put_stmt-returns-in-Break t c = grind (arith, laid)

pub put_stmt-returns-in-Continue : goal.put_stmt-returns-in-Continue
put_stmt-returns-in-Continue t c = grind (arith, laid)

pub put_stmt-returns-in-Empty : goal.put_stmt-returns-in-Empty
put_stmt-returns-in-Empty t c = grind (arith, laid)

pub put_stmt-returns-in-Eval : goal.put_stmt-returns-in-Eval
put_stmt-returns-in-Eval t c = grind (arith, laid)

pub put_stmt-returns-in-Local : goal.put_stmt-returns-in-Local
put_stmt-returns-in-Local t c = grind (arith, laid)

pub put_stmt-returns-in-Print : goal.put_stmt-returns-in-Print
put_stmt-returns-in-Print t c = grind (arith, laid)

pub put_stmt-returns-in-Return : goal.put_stmt-returns-in-Return
put_stmt-returns-in-Return t c = grind (arith, laid)

pub put_stmt-returns-in_default : goal.put_stmt-returns-in_default
put_stmt-returns-in_default t c = grind (arith, laid)

pub put_stmt-returns-in_ok-put-in-If : goal.put_stmt-returns-in_ok-put-in-If
put_stmt-returns-in_ok-put-in-If t c = grind (arith, laid)

pub put_stmt-returns-in_ok-put_behind-in-Do : goal.put_stmt-returns-in_ok-put_behind-in-Do
put_stmt-returns-in_ok-put_behind-in-Do t c = grind (arith, laid)

pub put_stmt-returns-in_ok-put_between-in-Switch : goal.put_stmt-returns-in_ok-put_between-in-Switch
put_stmt-returns-in_ok-put_between-in-Switch t c = grind (arith, laid)

pub put_stmt-returns-in_ok-put_while-in-While : goal.put_stmt-returns-in_ok-put_while-in-While
put_stmt-returns-in_ok-put_while-in-While t c = grind (arith, laid)
