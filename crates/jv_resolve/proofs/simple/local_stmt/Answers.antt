use Rattle.std.proofs.Common.{◌∙◌}
use Rattle.jv_core.proofs.ViewLaws.{stmt-Local}
use Rattle.jv_resolve.proofs.simple.local_stmt.Goals as goal

pub returns : goal.returns
returns c = c.stmt_at.ensures ∙ stmt-Local c.args.declaration.local.slot c.args.declaration.value c.args.declaration.place
