use Rattle.jv_core.proofs.ViewLaws.{stmt_of-is}
use Rattle.jv_resolve.proofs.given.stmt_at.Goals as goal

pub returns : goal.returns
returns c = stmt_of-is _
