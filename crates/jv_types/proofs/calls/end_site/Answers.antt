-- By `grind` at once, since a search finds nothing here.
use Rattle.std.proofs.Common.{arith}
use Rattle.jv_types.proofs.CallSteps.{sites}
use Rattle.jv_types.proofs.calls.end_site.Goals as goal

pub returns-in-None : goal.returns-in-None
returns-in-None c = grind (arith, sites)

pub returns-in-Some-field : goal.returns-in-Some-field
returns-in-Some-field c = grind (arith, sites)

pub returns-then-args-count_of : goal.returns-then-args-count_of
returns-then-args-count_of c = grind (arith, sites)

pub returns-then-not-given : goal.returns-then-not-given
returns-then-not-given c = grind (arith, sites)

pub returns-then-site : goal.returns-then-site
returns-then-site c = grind (arith, sites)
