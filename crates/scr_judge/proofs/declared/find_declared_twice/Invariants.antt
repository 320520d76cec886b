use Rattle.std.proofs.Common.{take}
use Rattle.mg_read.proofs.Scanning.{Left}
use Rattle.scr_judge.specs.inner.Listed.{alias_of, class_of, DeclaredTwice}
use Rattle.scr_judge.proofs.KeyTable.{Indexes}
use Rattle.scr_judge.proofs.declared.find_declared_twice.Given as goal

abbrev pub invariant-loop-i : goal.invariant-loop-i
invariant-loop-i l = record { indexes : Indexes alias_of class_of l.firsts (take l.i l.types); left : Left DeclaredTwice l.types l.i }
