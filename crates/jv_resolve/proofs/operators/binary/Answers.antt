use Rattle.std.proofs.Common.{ap, ◌∙◌}
use Rattle.jv_core.specs.Tree as Core
use Rattle.jv_core.specs.View.{expr_of}
use Rattle.jv_core.proofs.ViewLaws.{kind-Binary}
use Rattle.jv_resolve_law.specs.Expressions.{typed}
use Rattle.jv_resolve.proofs.operators.binary.Goals as goal

pub returns : goal.returns
returns c =
    c.typed.ensures
    ∙ ap (λ e. typed e c.operator_type-given.result) (kind-Binary c.args.op c.args.left.expr c.args.right.expr c.args.place)
    ∙ ap (typed (Core.Binary c.args.place c.args.op (expr_of c.args.left.expr.value) (expr_of c.args.right.expr.value)))
    c.operator_type-given.ensures
