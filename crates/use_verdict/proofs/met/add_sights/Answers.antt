use Rattle.std.proofs.Common.{◌≡◌, [], ◌∷◌, ◌++◌, length, sym, ap, ◌∙◌, arith, append_assoc}
use Rattle.std.proofs.lemmas.List.{append-nil}
use Rattle.std.specs.Vec.Iter.{into_iter_items}
use Rattle.use_verdict.proofs.Meeting.{nothing_left}
use Rattle.use_verdict.proofs.met.add_sights.Goals as goal

pub loop-sight-init : goal.loop-sight-init
loop-sight-init c =
    let began = c.into_iter-sight-iterator.ensures.into_iter_gives in
    record {
      count = let same = ap length began.0 in omega (arith, began.1, c.into_vec-sight-items.result.ok.0, same);
      moved = ap (λ z. c.args.all.now.items ++ z) (began.0 ∙ c.into_vec-sight-items.ensures);
    }

pub loop-sight-preserved : goal.loop-sight-preserved
loop-sight-preserved c =
    let step = c.in-Some.ensures.steps in
    let was = c.loop-sight.invariant in
    let some = ap length step.0 in
    record {
      count = let count = was.count in omega (arith, count, some, step.1);
      moved =
          ap (λ z. z ++ into_iter_items c.next.new.self) c.in_ok-push.ensures.ok
          ∙ append_assoc c.loop-sight.all.items (c.in-Some.sight ∷ []) (into_iter_items c.next.new.self)
          ∙ ap (λ z. c.loop-sight.all.items ++ z) (sym step.0)
          ∙ was.moved;
    }

pub returns : goal.returns
returns c =
    let was = c.loop-sight.invariant in
    let none : into_iter_items c.loop-sight.sight-iterator ≡ [] = nothing_left _ (sym was.count ∙ c.in-None.ensures.steps.0) in
    sym (append-nil c.loop-sight.all.items) ∙ ap (λ z. c.loop-sight.all.items ++ z) (sym none) ∙ was.moved
