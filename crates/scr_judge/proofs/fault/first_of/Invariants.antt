use Rattle.scr_tree.specs.Faults.{Of}
use Rattle.scr_tree.specs.Written.{written_of}
use Rattle.scr_judge.proofs.Numbers.{Rest}
use Rattle.scr_judge.proofs.fault.first_of.Given as goal

abbrev pub invariant-loop-condition : goal.invariant-loop-condition
invariant-loop-condition l = Rest (Of (written_of l.file l.written)) l.conditions l.condition-index
