use Rattle.cls_code.proofs.Marks.{Marking}
use Rattle.cls_code.proofs.jumps.marks_of.Given as goal

abbrev pub invariant-loop-start : goal.invariant-loop-start
invariant-loop-start l = Marking l.starts l.marks.items l.fn.len l.start-index
