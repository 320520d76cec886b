use Rattle.std.proofs.Common.{ap, ◌∙◌}
use Rattle.scr_global_tree.specs.Global.{tree_of}
use Rattle.scr_global_tree.specs.View.{statements}
use Rattle.scr_project.proofs.Made.{place_found, unmerged_found}
use Rattle.scr_project.proofs.projection.project_of.Goals as goal

pub unwrap-place-requires : goal.unwrap-place-requires
unwrap-place-requires c =
    place_found (tree_of c.args.global.now) c.args.role.now c.in_ok-me.me c.in_ok-first.field-0 c.as_slice-body.result.now
    c.in_ok-me.ensures
    (ap statements c.as_slice-body.ensures.items ∙ c.body.ensures) c.in_ok-first.ensures c.in-None.is

pub returns-in-None : goal.returns-in-None
returns-in-None c =
    unmerged_found (tree_of c.args.global.now) c.args.role.now c.in_ok-me.me c.in_ok-first.field-0 c.as_slice-body.result.now
    c.in_ok-me.ensures
    (ap statements c.as_slice-body.ensures.items ∙ c.body.ensures) c.in_ok-first.ensures c.in-None.is c.unwrap-place.result
    c.unwrap-place.ensures
