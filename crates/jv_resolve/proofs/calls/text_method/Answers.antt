-- By `grind` at once, which is shorter than a search.
use Rattle.std.proofs.Common.{arith}
use Rattle.jv_core.proofs.ViewLaws.{views}
use Rattle.jv_resolve.proofs.calls.text_method.Goals as goal

pub returns-in-Some-Concat : goal.returns-in-Some-Concat
returns-in-Some-Concat c = grind (arith, views)

pub returns-in-Some-Equals : goal.returns-in-Some-Equals
returns-in-Some-Equals c = grind (arith, views)
