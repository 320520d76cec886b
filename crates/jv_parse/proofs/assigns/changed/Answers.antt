-- By `grind` at once, which is shorter than a search.
use Rattle.std.proofs.Common.{arith}
use Rattle.jv_tree.proofs.ViewLaws.{views}
use Rattle.jv_parse.proofs.assigns.changed.Goals as goal

pub assigned-requires-clause-value_deep : goal.assigned-requires-clause-value_deep
assigned-requires-clause-value_deep c = grind (arith, views)

pub returns : goal.returns
returns c = grind (arith, views)

pub returns-then-parts-levels : goal.returns-then-parts-levels
returns-then-parts-levels c = grind (arith, views)
