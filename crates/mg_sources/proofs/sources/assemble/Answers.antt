use Rattle.std.proofs.Common.{◌≡◌, List, [], map, length, sym, ap, ◌∙◌, subst, arith, add-one}
use Rattle.std.proofs.lemmas.List.{length-map}
use Rattle.std.specs.Vec.Iter.{into_iter_items}
use Rattle.mg_sources.specs.declared.part.Part.{Part as KeptPart}
use Rattle.mg_sources.specs.declared.sources.Sources.{Sources as KeptSources}
use Rattle.mg_sources.specs.Parts.{part_of}
use Rattle.mg_sources.specs.View.{sourced_of}
use Rattle.jv_tree.specs.View.{file_of}
use Rattle.mg_sources.proofs.Together.{MadeSoFar, made_start, made_more, made_end, nothing_left}
use Rattle.mg_sources.proofs.sources.assemble.Goals as goal

pub loop-part-init : goal.loop-part-init
loop-part-init c =
    let began = c.into_iter-part-iterator.ensures.into_iter_gives in
    let start : KeptSources = record { files = c.new.result; typestates = c.new-2.result; origins = c.new-3.result } in
    let items : into_iter_items c.into_iter-part-iterator.result ≡ c.args.parts.items = began.0 ∙ c.into_vec-part-items.ensures in
    record {
      count = let same = ap length began.0 in omega (arith, began.1, c.into_vec-part-items.result.ok.0, same);
      made = subst (λ (z : List KeptPart). MadeSoFar (map part_of c.args.parts.items) 0 (map part_of z) (sourced_of start)) (sym items)
          (made_start (map part_of c.args.parts.items) (sourced_of start) (λ i. record {
            program = record { files = map file_of (c.new.ensures i); typestates = c.new-2.ensures i };
            origins = c.new-3.ensures i;
          }));
    }

pub overflow_add-number : goal.overflow_add-number
overflow_add-number c =
    let step = c.in-Some.ensures.steps in
    let count = c.loop-part.invariant.made.count in
    let left = length-map (into_iter_items c.loop-part.part-iterator) part_of in
    let all = length-map c.args.parts.items part_of in
    let some = ap length step.0 in
    omega (arith, count, left, all, some, c.requires)

pub loop-part-preserved : goal.loop-part-preserved
loop-part-preserved c =
    let step = c.in-Some.ensures.steps in
    let was = c.loop-part.invariant in
    let some = ap length step.0 in
    record {
      count = let count = was.count in omega (arith, count, some, step.1);
      made = made_more (subst (λ (z : List KeptPart). MadeSoFar (map part_of c.args.parts.items) c.loop-part.number (map part_of z)
          (sourced_of c.loop-part.sources)) step.0 was.made)
          (add-one c.loop-part.number) c.in_ok-add_part.ensures;
    }

pub returns : goal.returns
returns c =
    let was = c.loop-part.invariant in
    let none : into_iter_items c.loop-part.part-iterator ≡ [] = nothing_left _ (sym was.count ∙ c.in-None.ensures.steps.0) in
    made_end (subst (λ (z : List KeptPart). MadeSoFar (map part_of c.args.parts.items) c.loop-part.number (map part_of z)
    (sourced_of c.loop-part.sources)) none was.made)
