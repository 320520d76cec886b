use Rattle.std.proofs.Common.{◌∙◌, List, map, ap}
use Rattle.scr_tree.specs.declared.syntax.Part.{Part}
use Rattle.scr_tree.specs.declared.syntax.Statement.{Statement}
use Rattle.scr_tree.specs.Local.{tree_of}
use Rattle.scr_tree.specs.View.{statements, part_of}
use Rattle.stm_api.specs.declared.doings.Doing.{Doing}
use Rattle.stm_api.specs.inner.View.{doing_of}
use Rattle.stm_api.proofs.Laws.{all_done}
use Rattle.stm_api.proofs.doings.doings_of.Goals as goal

pub returns : goal.returns
returns c =
    all_done (tree_of c.args.local.now) (map doing_of c.collect_parts.new.out.items) (map doing_of c.collect_all.new.out.items)
    (map doing_of c.new-doings.result.items)
    c.me-me.result.now c.in_ok-next.next (statements c.as_slice.result.now) (map part_of c.as_slice-2.result.now)
    (ap (λ (ds : List Doing). map doing_of ds) c.new-doings.ensures) c.me-me.ensures
    (ap (λ (ss : List Statement). statements ss) c.as_slice.ensures.items ∙ c.body.ensures)
    (ap (λ (ps : List Part). map part_of ps) c.as_slice-2.ensures.items ∙ c.others.ensures) c.in_ok-next.ensures.doings
    c.in_ok-next.ensures.next c.in_ok-collect_parts.ensures
