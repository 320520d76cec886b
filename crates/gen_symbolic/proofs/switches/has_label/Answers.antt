-- By `grind` at once, since a search finds nothing here.
use Rattle.std.proofs.Common.{arith}
use Rattle.gen_symbolic.proofs.Loops.{labels}
use Rattle.gen_symbolic.proofs.switches.has_label.Goals as goal

pub returns : goal.returns
returns c = grind (arith, labels)
