use Rattle.std.proofs.Common.{ap, ◌∙◌}
use Rattle.jv_core.proofs.ViewLaws.{kind-Null}
use Rattle.jv_core.specs.Tree as Core
use Rattle.jv_resolve_law.specs.Expressions.{Resolved, OfNull}
use Rattle.jv_resolve.proofs.literals.null.Goals as goal

abbrev of_null : Core.Expr → Resolved
of_null e = record { expr = e; given = OfNull }

pub returns : goal.returns
returns c = ap of_null (c.expr_at.ensures ∙ kind-Null c.args.place)
