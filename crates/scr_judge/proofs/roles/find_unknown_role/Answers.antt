use Rattle.std.proofs.Common.{None, [], map, sym, ap, ◌∙◌, ◌↔◌, IsTrue, Contains, subst}
use Rattle.mg_text.specs.Call.{Name}
use Rattle.scr_tree.specs.Written.{role_name}
use Rattle.scr_tree.specs.View.{statements}
use Rattle.scr_judge.specs.inner.OnSpot.{asks_role, walk}
use Rattle.scr_judge.specs.inner.Seen.{noted_in}
use Rattle.scr_judge.proofs.Mentioned.{itself_unlisted, unlisted_behind}
use Rattle.scr_judge.proofs.roles.find_unknown_role.Goals as goal

pub returns-then-not-contains : goal.returns-then-not-contains
returns-then-not-contains c =
    let names : (q : Name) → IsTrue (noted_in c.in_ok-listed.listed q) ↔ Contains (map role_name c.args.part.now.roles.items) q =
    subst (λ rs. (q : Name) → IsTrue (noted_in c.in_ok-listed.listed q) ↔ Contains (map role_name rs) q) c.as_slice.ensures.items
    c.in_ok-listed.ensures in
    itself_unlisted (map role_name c.args.part.now.roles.items) (noted_in c.in_ok-listed.listed) names c.args.part.now.me
    (statements c.args.part.now.body.items)
    c.as_str-then-not-contains.result.now c.as_str-then-not-contains.ensures
    (ap (noted_in c.in_ok-listed.listed) (c.as_str-then-not-contains.ensures ∙ sym c.as_str.ensures) ∙ sym c.if-not-contains.ensures)

pub returns : goal.returns
returns c =
    let names : (q : Name) → IsTrue (noted_in c.in_ok-listed.listed q) ↔ Contains (map role_name c.args.part.now.roles.items) q =
    subst (λ rs. (q : Name) → IsTrue (noted_in c.in_ok-listed.listed q) ↔ Contains (map role_name rs) q) c.as_slice.ensures.items
    c.in_ok-listed.ensures in
    unlisted_behind (map role_name c.args.part.now.roles.items) (noted_in c.in_ok-listed.listed) names c.args.part.now.me
    (statements c.args.part.now.body.items)
    c.as_str.result.now c.as_str.ensures (sym c.if-not-contains.ensures) _
    (c.find_unknown_peer.ensures ∙ ap (λ b. walk (asks_role (noted_in c.in_ok-listed.listed)) None [] (statements b))
    c.as_slice-2.ensures.items)
