use Rattle.std.proofs.Common.{List, map, refl, subst, sym, ◌∙◌}
use Rattle.mg_text.specs.Call.{Name}
use Rattle.scr_tree.specs.Local.{tree_of as local_of}
use Rattle.scr_tree.specs.declared.local.Local.{Local}
use Rattle.scr_global_tree.specs.Global.{tree_of}
use Rattle.scr_project.specs.Outcome as projects
use Rattle.mg_projected.proofs.Rest.{Rest, rest_start, rest_end, rest_pushed, rest_fault}
use Rattle.mg_projected.proofs.locals.locals_of.Goals as goal

pub loop-role-init : goal.loop-role-init
loop-role-init c =
    let g = tree_of c.args.global.now in subst (λ (ls : List Local). Rest g g.roles 0 (map local_of ls)) (sym c.new-locals.ensures)
    (rest_start g g.roles)

pub returns : goal.returns
returns c =
    let g = tree_of c.args.global.now in
    rest_end g g.roles c.loop-role.role-index (map local_of c.loop-role.locals.items) c.loop-role.invariant
    c.as_slice-role-items.result.now (c.as_slice-role-items.ensures.items ∙ c.roles.ensures) c.loop-role-test.false

pub loop-role-preserved : goal.loop-role-preserved
loop-role-preserved c =
    let g = tree_of c.args.global.now in
    rest_pushed g g.roles c.loop-role.role-index c.loop-role.locals.items c.loop-role.invariant c.as_slice-role-items.result.now
    (c.as_slice-role-items.ensures.items ∙ c.roles.ensures) c.role-item.result c.loop-role-test.true c.role-item.is c.in-Ok.local
    c.push.new.self.items
    (subst (λ (r : Name). projects.Outcome g r (projects.Protocol (local_of c.in-Ok.local))) c.as_str.ensures
    (c.in-Ok.ensures.answered (projects.Protocol (local_of c.in-Ok.local)) refl)) c.in_ok-push-in-Ok.ensures.ok

pub returns-in-Err : goal.returns-in-Err
returns-in-Err c =
    let g = tree_of c.args.global.now in
    rest_fault g g.roles c.loop-role.role-index (map local_of c.loop-role.locals.items) c.loop-role.invariant
    c.as_slice-role-items.result.now (c.as_slice-role-items.ensures.items ∙ c.roles.ensures) c.role-item.result c.loop-role-test.true
    c.role-item.is c.in-Err.fault (record {
      right = λ a h. subst (λ (r : Name). projects.Outcome g r a) c.as_str.ensures (c.in-Err.ensures.answered a h);
      answers = λ h. let e = c.in-Err.ensures.nothing h in cc;
    })
