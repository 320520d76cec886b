use Rattle.std.proofs.Common.{Bool, Some, None, if◌then◌else◌, List, option_map, refl, sym, ap, ◌∙◌}
use Rattle.mg_text.specs.Call.{Name}
use Rattle.scr_tree.specs.View.{statements}
use Rattle.scr_tree.specs.declared.syntax.Statement.{Statement}
use Rattle.scr_project.specs.inner.Merge.{first_taken}
use Rattle.scr_project.proofs.Merging.{peer_told}
use Rattle.scr_project.proofs.merge.telling_peer.Goals as goal

pub returns-in_ok-peer : goal.returns-in_ok-peer
returns-in_ok-peer c =
    let m = c.in-Some-first_taken.message.now in
    let takes = sym (c.first_taken.ensures ∙ ap (λ (b : List Statement). first_taken (statements b)) c.as_slice.ensures.items) ∙
    ap (option_map (λ x. x.now)) c.in-Some-first_taken.is in
    let told = peer_told c.args.me.now c.args.branches.now c.in-Some.first.now c.in-Some.field-0-1.now
    (first_taken (statements c.in-Some.first.now.items)) m
    c.in_ok-tells.field-0 c.in-Some.ensures.cases.0 refl takes c.in_ok-tells.ensures in
    ap (λ (n : Name). Some n) c.in_ok-peer.ensures ∙ sym (told ∙ ap (λ (z : Bool). if z then Some m.peer else None) c.if-branch.true)

pub returns-else-branch : goal.returns-else-branch
returns-else-branch c =
    let m = c.in-Some-first_taken.message.now in
    let takes = sym (c.first_taken.ensures ∙ ap (λ (b : List Statement). first_taken (statements b)) c.as_slice.ensures.items) ∙
    ap (option_map (λ x. x.now)) c.in-Some-first_taken.is in
    let told = peer_told c.args.me.now c.args.branches.now c.in-Some.first.now c.in-Some.field-0-1.now
    (first_taken (statements c.in-Some.first.now.items)) m
    c.in_ok-tells.field-0 c.in-Some.ensures.cases.0 refl takes c.in_ok-tells.ensures in
    sym (told ∙ ap (λ (z : Bool). if z then Some m.peer else None) c.if-branch.false)
