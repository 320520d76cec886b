use Rattle.cls_code.proofs.Going.{Going}
use Rattle.cls_code.proofs.jumps.first_outside.Given as goal

abbrev pub invariant-loop-index : goal.invariant-loop-index
invariant-loop-index l = Going l.instrs l.starts l.index
