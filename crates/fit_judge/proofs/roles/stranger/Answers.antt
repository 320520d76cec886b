use Rattle.std.proofs.Common.{◌≡◌, ◌↔◌, List, IsTrue, Contains, true, false, codes, sym, ap, subst, ◌∙◌}
use Rattle.std.specs.HashSet.{contains_text}
use Rattle.mg_text.specs.Call.{Name}
use Rattle.mg_refusal.specs.Refusals.{refusal_nowhere}
use Rattle.scr_global_tree.specs.Global.{tree_of}
use Rattle.mg_fits.specs.Conditions.{IsStranger}
use Rattle.fit_judge.proofs.Sets.{is_in, not_in}
use Rattle.fit_judge.proofs.Walks.{walk_start, walk_end, walk_here, walk_later}
use Rattle.fit_judge.proofs.roles.stranger.Goals as goal

pub loop-main-init : goal.loop-main-init
loop-main-init c = λ parts core. walk_start (IsStranger (tree_of c.args.global.now) parts core c.args.mains.now) c.args.mains.now

pub loop-main-preserved : goal.loop-main-preserved
loop-main-preserved c parts core =
    let listed : (q : Name) → IsTrue (contains_text c.in_ok-listed.listed q) ↔ Contains (tree_of c.args.global.now).roles q =
    subst (λ (ns : List Name). (q : Name) → IsTrue (contains_text c.in_ok-listed.listed q) ↔ Contains ns q)
    (c.as_slice.ensures.items ∙ c.roles.ensures) c.in_ok-listed.ensures in
    let has : contains_text c.in_ok-listed.listed c.main-item.result.role ≡ true =
    ap (contains_text c.in_ok-listed.listed) (sym c.as_str.ensures) ∙ sym c.if-not-contains.ensures in
    walk_later (IsStranger (tree_of c.args.global.now) parts core c.args.mains.now) c.args.mains.now c.loop-main.main-index
    (c.loop-main.invariant parts core) c.main-item.result c.loop-main-test.true c.main-item.is
    (λ r a. a.0 (is_in (contains_text c.in_ok-listed.listed) (tree_of c.args.global.now).roles listed c.main-item.result.role has))

pub returns-then-not-contains : goal.returns-then-not-contains
returns-then-not-contains c parts core =
    let listed : (q : Name) → IsTrue (contains_text c.in_ok-listed.listed q) ↔ Contains (tree_of c.args.global.now).roles q =
    subst (λ (ns : List Name). (q : Name) → IsTrue (contains_text c.in_ok-listed.listed q) ↔ Contains ns q)
    (c.as_slice.ensures.items ∙ c.roles.ensures) c.in_ok-listed.ensures in
    let has : contains_text c.in_ok-listed.listed c.main-item.result.role ≡ false =
    ap (contains_text c.in_ok-listed.listed) (sym c.as_str.ensures) ∙ sym c.if-not-contains.ensures in
    walk_here (IsStranger (tree_of c.args.global.now) parts core c.args.mains.now) c.args.mains.now c.loop-main.main-index
    (c.loop-main.invariant parts core) c.main-item.result c.loop-main-test.true c.main-item.is c.nowhere.result (
      not_in (contains_text c.in_ok-listed.listed) (tree_of c.args.global.now).roles listed c.main-item.result.role has,
      c.nowhere.ensures ∙ ap (refusal_nowhere (codes "Stranger")) c.in_ok-copy.ensures,
    )

pub returns : goal.returns
returns c parts core = walk_end (IsStranger (tree_of c.args.global.now) parts core c.args.mains.now) c.args.mains.now c.loop-main.main-index
    (c.loop-main.invariant parts core) c.loop-main-test.false
