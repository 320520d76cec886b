-- By `grind` at once, since a search finds nothing here.
use Rattle.std.proofs.Common.{arith}
use Rattle.std.proofs.lemmas.Grind.{common_steps}
use Rattle.jv_types.proofs.repeats.type_met.Goals as goal

pub loop-decl-preserved : goal.loop-decl-preserved
loop-decl-preserved c = grind (arith, common_steps)

pub returns : goal.returns
returns c = grind (arith, common_steps)

pub returns-then-is_built_in : goal.returns-then-is_built_in
returns-then-is_built_in c = grind (arith, common_steps)

pub returns-then-not-fresh : goal.returns-then-not-fresh
returns-then-not-fresh c = grind (arith, common_steps)
