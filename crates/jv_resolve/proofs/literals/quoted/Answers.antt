use Rattle.std.proofs.Common.{ap, ◌∙◌}
use Rattle.jv_core.specs.Tree as Core
use Rattle.jv_core.specs.declared.program.CoreType.TheVariants as types
use Rattle.jv_core.proofs.ViewLaws.{kind-Text}
use Rattle.jv_resolve_law.specs.Expressions.{typed}
use Rattle.jv_resolve.proofs.literals.quoted.Goals as goal

pub returns : goal.returns
returns c =
    c.typed.ensures ∙ ap (λ e. typed e types.Text) (kind-Text c.in_ok-text.text c.args.place) ∙
    ap (λ t. typed (Core.Text c.args.place t) types.Text) c.in_ok-text.ensures
