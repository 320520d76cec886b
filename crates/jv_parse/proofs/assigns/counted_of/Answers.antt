-- By `grind` at once, which is shorter than a search.
use Rattle.std.proofs.Common.{arith}
use Rattle.jv_tree.proofs.ViewLaws.{views}
use Rattle.jv_parse.proofs.assigns.counted_of.Goals as goal

pub changed-requires-clause-value_deep : goal.changed-requires-clause-value_deep
changed-requires-clause-value_deep c = grind (arith, views)

pub returns : goal.returns
returns c = grind (arith, views)
