use Rattle.mg_accepted.proofs.Total.{resolved}
use Rattle.mg_accepted.proofs.law.well_typed_is_resolved.Goals as goal

pub returns : goal.returns
returns c = resolved c.spelled_is_shaped.ensures c.resolving_is_right.ensures c.resolving_is_total.ensures
