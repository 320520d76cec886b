use Rattle.std.proofs.Common.{◌≡◌, take_all, map, subst, ◌∙◌, arith, string_bytes}
use Rattle.std.specs.HashSet.{contains_text}
use Rattle.vm_world_law.specs.declared.role.RoleMain.{RoleMain}
use Rattle.scr_judge.proofs.Duplicates.{HasNames, has_none, has_one_more}
use Rattle.fit_judge.proofs.names.roles_played.Goals as goal

pub loop-main-init : goal.loop-main-init
loop-main-init c = has_none _ c.no_names-names.ensures

pub loop-main-preserved : goal.loop-main-preserved
loop-main-preserved c =
    let same : string_bytes c.in_ok-name.name ≡ c.main-item.result.role = c.in_ok-name.ensures.ok ∙ c.as_str.ensures in
    has_one_more (λ (m : RoleMain). m.role) (contains_text c.loop-main.names) c.args.mains.now c.loop-main.main-index c.main-item.result
    c.loop-main-test.true c.main-item.is c.loop-main.invariant
    (string_bytes c.in_ok-name.name) same (contains_text c.add_name.new.names) c.in_ok-add_name.ensures.names

pub returns : goal.returns
returns c = (subst (λ xs. HasNames (contains_text c.loop-main.names) (map (λ (m : RoleMain). m.role) xs)) (take_all c.loop-main.main-index c.args.mains.now
    (omega arith)) c.loop-main.invariant).each
