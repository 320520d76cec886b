use Rattle.std.proofs.Common.{◌≡◌, [], ◌∷◌, ◌++◌, List, arith, ap, codes, map, ◌∙◌}
use Rattle.std.proofs.lemmas.Grind.{common_steps}
use Rattle.std.proofs.lemmas.Result.{on_ok_weaker}
use Rattle.jv_tree.specs.declared.built_in.SessionCall.TheVariants as calls
use Rattle.jv_tree.specs.Source.{Expr, Stmt, Text as Quoted, Variable, Eval}
use Rattle.jv_tree.specs.View.{expr_of, stmt_of}
use Rattle.jv_tree.proofs.ViewLaws.{kind-Eval}
use Rattle.stm_api.specs.Api.{session}
use Rattle.stm_api.proofs.bodies.add_refusal.Goals as goal

pub returns : goal.returns
returns c =
    let p = c.args.place in
    let args : map expr_of c.add_variable.new.args.items ≡ Quoted p c.args.peer.now ∷ (Variable p (codes "found") ∷ []) =
    grind (arith, common_steps) in
    on_ok_weaker c.add.result (λ e.
    e ∙ ap (λ (s : Stmt). map stmt_of c.args.body.now.items ++ s ∷ []) (kind-Eval c.in_ok-call.call p
    ∙ ap (λ (x : Expr). Eval p x) (c.in_ok-call.ensures ∙ ap (λ (es : List Expr). session p calls.Refuse es) args))) c.add.ensures
