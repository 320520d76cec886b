use Rattle.std.proofs.Common.{map}
use Rattle.vm_model.specs.View.{instr_of}
use Rattle.cls_search.proofs.Marking.{JoinsSoFar}
use Rattle.cls_search.proofs.joins.join_marks.Given as goal

abbrev pub invariant-loop-instr : goal.invariant-loop-instr
invariant-loop-instr l = JoinsSoFar (map instr_of l.code) l.marks.items l.instr-index
