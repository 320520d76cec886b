use Rattle.std.proofs.Common.{◌≡◌, List, [], ◌++◌, map, length, sym, ap, ◌∙◌, arith, append_assoc}
use Rattle.std.proofs.lemmas.List.{append-nil, map_push}
use Rattle.std.specs.Vec.Iter.{into_iter_items}
use Rattle.scr_tree.specs.Tree.{PartTree}
use Rattle.scr_tree.specs.View.{part_of}
use Rattle.scr_tree.specs.declared.written.WrittenPart.{WrittenPart as Written}
use Rattle.scr_read.proofs.Moved.{nothing_left, meant_of, meant_each}
use Rattle.scr_read.proofs.verdict.parts_of.Goals as goal

pub loop-part-init : goal.loop-part-init
loop-part-init c =
    let began = c.into_iter-part-iterator.ensures.into_iter_gives in
    record {
      count = let same = ap length began.0 in omega (arith, began.1, c.into_vec-part-items.result.ok.0, same);
      moved = rw c.new-parts.ensures (ap (map meant_of) (began.0 ∙ c.into_vec-part-items.ensures));
    }

pub loop-part-preserved : goal.loop-part-preserved
loop-part-preserved c =
    let step = c.in-Some.ensures.steps in
    let was = c.loop-part.invariant in
    let some = ap length step.0 in
    record {
      count = let count = was.count in omega (arith, count, some, step.1);
      moved =
          ap (λ (z : List PartTree). z ++ map meant_of (into_iter_items c.next.new.self))
          (ap (map part_of) c.in_ok-push.ensures.ok ∙ map_push part_of c.loop-part.parts.items _)
          ∙ append_assoc (map part_of c.loop-part.parts.items) _ (map meant_of (into_iter_items c.next.new.self))
          ∙ ap (λ (z : List Written). map part_of c.loop-part.parts.items ++ map meant_of z) (sym step.0)
          ∙ was.moved;
    }

pub returns : goal.returns
returns c =
    let was = c.loop-part.invariant in
    let none : into_iter_items c.loop-part.part-iterator ≡ [] = nothing_left _ (sym was.count ∙ c.in-None.ensures.steps.0) in
    sym (append-nil (map part_of c.loop-part.parts.items))
    ∙ ap (λ (z : List Written). map part_of c.loop-part.parts.items ++ map meant_of z) (sym none)
    ∙ was.moved ∙ meant_each c.args.written.items
