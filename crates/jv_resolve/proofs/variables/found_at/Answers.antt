use Rattle.std.proofs.Common.{ap, ◌∙◌}
use Rattle.jv_core.proofs.ViewLaws.{kind-Var}
use Rattle.jv_resolve_law.specs.Expressions.{typed}
use Rattle.jv_resolve.proofs.variables.found_at.Goals as goal

pub returns : goal.returns
returns c = c.typed.ensures ∙ ap (λ e. typed e c.args.found.ty) (kind-Var c.args.found.var c.args.place)
