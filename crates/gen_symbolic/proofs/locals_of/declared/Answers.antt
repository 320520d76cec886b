-- By `grind` at once, since a search finds nothing here.
use Rattle.std.proofs.Common.{arith}
use Rattle.gen_symbolic.proofs.Loops.{declares}
use Rattle.gen_symbolic.proofs.locals_of.declared.Goals as goal

pub returns-in-Block : goal.returns-in-Block
returns-in-Block c = grind (arith, declares)

pub returns-in-Break : goal.returns-in-Break
returns-in-Break c = grind (arith, declares)

pub returns-in-Do : goal.returns-in-Do
returns-in-Do c = grind (arith, declares)

pub returns-in-If : goal.returns-in-If
returns-in-If c = grind (arith, declares)

pub returns-in-Local : goal.returns-in-Local
returns-in-Local c = grind (arith, declares)

pub returns-in-Print : goal.returns-in-Print
returns-in-Print c = grind (arith, declares)
