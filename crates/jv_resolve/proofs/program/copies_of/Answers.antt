-- By `grind` at once, which is shorter than a search.
use Rattle.std.proofs.Common.{arith}
use Rattle.std.proofs.lemmas.Grind.{common_steps}
use Rattle.jv_resolve.proofs.program.copies_of.Goals as goal

pub loop-typestate-preserved : goal.loop-typestate-preserved
loop-typestate-preserved c = grind (arith, common_steps)
