use Rattle.std.proofs.Common.{arith, Some, sym, ap, ◌∙◌}
use Rattle.std.proofs.lemmas.Grind.{common_steps}
use Rattle.std.specs.Prelude.{map}
use Rattle.jv_tree.specs.declared.built_in.SessionCall.{SessionCall}
use Rattle.jv_tree.specs.BuiltIn.{PlainMethod}
use Rattle.jv_core.specs.Tree as Core
use Rattle.jv_core.specs.View.{expr_of, exprs_of}
use Rattle.jv_core.specs.Types.{plain_type, session_result}
use Rattle.jv_core.proofs.ViewLaws.{kind-Session}
use Rattle.jv_resolve_law.specs.Tables.{◌>>=◌}
use Rattle.jv_resolve_law.specs.Expressions.{typed}
use Rattle.jv_resolve.proofs.calls.session_call.Goals as goal

pub returns : goal.returns
returns c =
    ap (λ o. o >>= λ (k : SessionCall). Some (typed (Core.Session c.args.place k (exprs_of (map expr_of c.args.args.items)))
    (session_result k))) (sym c.in-Some.ensures)
    ∙ ap Some (sym (c.typed.ensures ∙ ap (λ e. typed e c.plain.result) (kind-Session c.in-Some.call c.args.args c.args.place)
    ∙ ap (typed (Core.Session c.args.place c.in-Some.call (exprs_of (map expr_of c.args.args.items))))
    (c.plain.ensures ∙ ap (λ (m : PlainMethod). plain_type m.result) c.method.ensures)))

pub returns-in_default : goal.returns-in_default
returns-in_default c = grind (arith, common_steps)
