use Rattle.std.proofs.lemmas.Grind.{common_steps}
use Rattle.std.proofs.Common.{◌≡◌, ℕ, ◌++◌, ◌∷◌, [], ◌-◌, List, length, get_or, take, vec_len, refl, sym, ap, subst, ◌∙◌, arith, true≢false}
use Rattle.std.proofs.lemmas.List.{length-map}
use Rattle.mg_text.specs.declared.memory.Memory.{Memory}
use Rattle.scr_judge.specs.inner.Round.{Graph, Reaches, there}
use Rattle.scr_judge.specs.inner.Search.{Spreads}
use Rattle.scr_judge.specs.inner.View.{graph_of}
use Rattle.scr_judge.proofs.Searching.{Walked, walked_first, walked_more, found_further, none_left, written_all, on_false}
use Rattle.scr_judge.proofs.round.leads.Goals as goal

pub returns-then-from-to : goal.returns-then-from-to
returns-then-from-to c = (λ t. subst (Reaches (graph_of c.args.targets.now) c.args.from) c.if-from-to.true there, λ r. refl)

pub nodes-init : goal.nodes-init
nodes-init c =
    let zeros : c.as_mut_slice.result.now ≡ c.in_ok-seen.seen.items = c.as_mut_slice.ensures.value in
    let size : length c.come_to.new.seen ≡ length c.in_ok-seen.seen.items = c.in_ok-come_to.ensures.size ∙ ap length zeros in
    subst (λ (l : List ℕ). Walked (graph_of c.args.targets.now) c.args.from c.args.to l c.come_to.new.waiting.items)
    (sym (written_all c.come_to.new.seen c.in_ok-seen.seen.items c.in_ok-seen.seen.len size (omega (arith, c.in_ok-seen.seen.ok.0))))
    (walked_first (graph_of c.args.targets.now) c.args.from c.args.to _ c.as_mut_slice.result.now c.new-waiting.result.items
    c.come_to.new.seen c.come_to.new.waiting.items
    (zeros ∙ c.in_ok-seen.ensures) c.new-waiting.ensures.items (sym (length-map c.args.targets.now _)) c.in_ok-come_to.ensures)

pub returns-then-branch : goal.returns-then-branch
returns-then-branch c = (
  λ t. found_further (graph_of c.args.targets.now) c.args.from c.args.to c.in-Some.node c.nodes.seen.items c.pop.new.self.items
      (subst (Walked (graph_of c.args.targets.now) c.args.from c.args.to c.nodes.seen.items) c.in-Some.ensures.items c.nodes.invariant)
      (c.in_ok-follow.ensures.hit c.if-branch.true),
  λ r. refl,
)

pub nodes-preserved : goal.nodes-preserved
nodes-preserved c =
    let g : Graph = graph_of c.args.targets.now in
    let walked : Walked g c.args.from c.args.to c.nodes.seen.items (c.pop.new.self.items ++ c.in-Some.node ∷ []) =
    subst (Walked g c.args.from c.args.to c.nodes.seen.items) c.in-Some.ensures.items c.nodes.invariant in
    let passed : Spreads (get_or g c.in-Some.node []) c.args.to c.as_mut_slice-in-Some.result.now c.pop.new.self.items c.follow.new.seen
    c.follow.new.waiting.items =
    on_false Memory (Spreads (get_or g c.in-Some.node []) c.args.to c.as_mut_slice-in-Some.result.now c.pop.new.self.items c.follow.new.seen
    c.follow.new.waiting.items)
    c.in_ok-follow.field-0 c.if-branch.false c.in_ok-follow.ensures.spread in
    let spread : Spreads (get_or g c.in-Some.node []) c.args.to c.nodes.seen.items c.pop.new.self.items c.follow.new.seen
    c.follow.new.waiting.items =
    subst (λ (l : List ℕ). Spreads (get_or g c.in-Some.node []) c.args.to l c.pop.new.self.items c.follow.new.seen
    c.follow.new.waiting.items) c.as_mut_slice-in-Some.ensures.value passed in
    subst (λ (l : List ℕ). Walked g c.args.from c.args.to l c.follow.new.waiting.items)
    (sym (written_all c.follow.new.seen c.nodes.seen.items c.nodes.seen.len spread.came.size (omega (arith, c.nodes.seen.ok.0))))
    (walked_more g c.args.from c.args.to c.in-Some.node c.nodes.seen.items c.pop.new.self.items c.follow.new.seen c.follow.new.waiting.items
    walked spread)

pub returns : goal.returns
returns c =
    let none : vec_len c.nodes.waiting ≡ 0 = c.in_default.ensures.cases.0 in
    let less : vec_len c.nodes.waiting - 1 ≡ 0 = omega arith in
    let empty : c.nodes.waiting.items ≡ [] = c.in_default.ensures.items ∙ ap (λ (xs : List ℕ). xs ++ [])
    (c.in_default.ensures.rest ∙ ap (λ k. take k c.nodes.waiting.items) less) in (
      λ t. absurd (true≢false (sym t)),
      λ r. absurd (none_left (graph_of c.args.targets.now) c.args.from c.args.to c.nodes.seen.items
          (subst (Walked (graph_of c.args.targets.now) c.args.from c.args.to c.nodes.seen.items) empty c.nodes.invariant) c.if-from-to.false
          r),
    )

pub nodes-smaller : goal.nodes-smaller
nodes-smaller c = grind (arith, common_steps)
