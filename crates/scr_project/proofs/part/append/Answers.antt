use Rattle.std.proofs.Common.{◌≡◌, List, [], ◌++◌, sym, ap, ◌∙◌}
use Rattle.std.proofs.lemmas.List.{append-nil}
use Rattle.std.specs.Vec.Iter.{into_iter_items}
use Rattle.scr_tree.specs.View.{statements}
use Rattle.scr_tree.specs.declared.syntax.Statement.{Statement}
use Rattle.scr_global_tree.proofs.Appends.{statements-append}
use Rattle.scr_project.proofs.Behinds.{nothing_left}
use Rattle.scr_project.proofs.part.append.Goals as goal

pub returns : goal.returns
returns c =
    let was = c.loop-statement.invariant in
    let none : into_iter_items c.loop-statement.statement-iterator ≡ [] = nothing_left _ (sym was.count ∙ c.in-None.ensures.steps.0) in
    ap statements (sym (append-nil c.loop-statement.front.items) ∙ ap (λ (z : List Statement). c.loop-statement.front.items ++ z) (sym none)
    ∙ was.moved)
    ∙ statements-append c.args.front.now.items c.args.more.items
