use Rattle.jv_core.proofs.ViewLaws.{expr_of-is}
use Rattle.jv_resolve.proofs.given.expr_at.Goals as goal

pub returns : goal.returns
returns c = expr_of-is _
