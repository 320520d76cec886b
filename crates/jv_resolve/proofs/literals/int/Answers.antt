use Rattle.std.proofs.Common.{ap, ◌∙◌, rules}
use Rattle.std.proofs.lemmas.Int.{to_z-of_z}
use Rattle.std.specs.Int.RustNames.{FitsSigned}
use mir.Syntax.{w32}
use Rattle.jv_core.specs.View.{kind_of}
use Rattle.jv_core.specs.declared.tree.CoreExprKind.TheVariants as kinds
use Rattle.jv_core.specs.declared.program.CoreType.TheVariants as types
use Rattle.jv_core.proofs.ViewLaws.{kind-Int}
use Rattle.jv_resolve_law.specs.Expressions.{typed}
use Rattle.jv_resolve.proofs.literals.int.Goals as goal

pub returns : goal.returns
returns c =
    let f : FitsSigned w32 c.args.value = search rules in
    c.typed.ensures
    ∙ ap (λ z. typed (kind_of (kinds.Int z) c.args.place) types.Int) (to_z-of_z w32 c.args.value f)
    ∙ ap (λ e. typed e types.Int) (kind-Int c.args.value c.args.place)
