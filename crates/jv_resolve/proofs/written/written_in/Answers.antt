-- By `grind` at once, which is shorter than a search.
use Rattle.std.proofs.Common.{arith}
use Rattle.jv_tree.proofs.ViewLaws.{views}
use Rattle.jv_resolve.proofs.written.written_in.Goals as goal

pub returns-in-Local : goal.returns-in-Local
returns-in-Local c = grind (arith, views)
