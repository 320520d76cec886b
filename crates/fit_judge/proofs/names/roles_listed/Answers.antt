use Rattle.std.proofs.Common.{◌≡◌, ◌↔◌, IsTrue, Contains, List, take_all, map, subst, ◌∙◌, arith, string_bytes}
use Rattle.std.specs.HashSet.{contains_text}
use Rattle.mg_text.specs.Call.{Name}
use Rattle.scr_judge.proofs.Duplicates.{HasNames, has_none, has_one_more}
use Rattle.fit_judge.proofs.Sets.{map-itself}
use Rattle.fit_judge.proofs.names.roles_listed.Goals as goal

pub loop-role-init : goal.loop-role-init
loop-role-init c = has_none _ c.no_names-names.ensures

pub loop-role-preserved : goal.loop-role-preserved
loop-role-preserved c =
    let same : string_bytes c.in_ok-name.name ≡ c.role-item.result = c.in_ok-name.ensures.ok ∙ c.as_str.ensures in
    has_one_more (λ (r : Name). r) (contains_text c.loop-role.names) c.args.roles.now c.loop-role.role-index c.role-item.result
    c.loop-role-test.true c.role-item.is c.loop-role.invariant
    (string_bytes c.in_ok-name.name) same (contains_text c.add_name.new.names) c.in_ok-add_name.ensures.names

pub returns : goal.returns
returns c q =
    let all = (subst (λ xs. HasNames (contains_text c.loop-role.names) (map (λ (r : Name). r) xs)) (take_all c.loop-role.role-index
    c.args.roles.now (omega arith)) c.loop-role.invariant).each q in
    subst (λ (ns : List Name). IsTrue (contains_text c.loop-role.names q) ↔ Contains ns q) (map-itself c.args.roles.now) all
