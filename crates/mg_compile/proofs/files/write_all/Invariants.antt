use Rattle.mg_compile.proofs.Writing.{AreLeft}
use Rattle.mg_compile.proofs.files.write_all.Given as goal

abbrev pub invariant-loop-number : goal.invariant-loop-number
invariant-loop-number l = AreLeft l.fn.core l.fn.own l.fn.classes l.number l.files.items
