use Rattle.std.proofs.Common.{◌∷◌, [], ◌++◌, Bool, map, ap, sym, ◌∙◌}
use Rattle.std.proofs.lemmas.Result.{on_ok_weaker}
use Rattle.jv_tree.specs.Source.{Stmt}
use Rattle.jv_tree.specs.View.{stmt_of}
use Rattle.jv_tree.proofs.ViewLaws.{kind-Break}
use Rattle.stm_client.specs.Client.{ended}
use Rattle.stm_client.proofs.stmts.add_break.Goals as goal

pub returns-then-falls : goal.returns-then-falls
returns-then-falls c =
    let before = map stmt_of c.args.out.now.items in
    on_ok_weaker c.add.result (λ e. e ∙ ap (λ (s : Stmt). before ++ s ∷ []) (kind-Break c.args.label c.args.place)
    ∙ ap (λ (b : Bool). before ++ ended c.args.place c.args.label b) (sym c.if-falls.true)) c.add.ensures
