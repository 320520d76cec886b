use Rattle.std.proofs.lemmas.Grind.{common_steps}
use Rattle.std.proofs.Common.{rules, ◌<◌, ◌≤◌, ◌∷◌, [], length, map, sym, ap, ◌∙◌, arith}
use Rattle.std.proofs.lemmas.List.{map-append}
use Rattle.std.proofs.lemmas.Simd.{map-map}
use Rattle.cls_tree.specs.View.{class_of}
use Rattle.vm_model.specs.View as model
use Rattle.vm_model.specs.Links.{lower, least, class_flaws, linked_class, outline}
use Rattle.vm_load.specs.Faults.{best_flaw}
use Rattle.vm_load.specs.Outlines.{outline_of, outlines_of}
use Rattle.vm_load.proofs.ClassLaws.{flaws_next, flaws_whole, outlined_many, outlined_at}
use Rattle.vm_load.proofs.Maps.{mapped_more, mapped_twice}
use Rattle.vm_load.proofs.Loads.{flat_map-map, least_by}
use Rattle.vm_load.proofs.loading.judge_classes.Goals as goal

pub judge_class-requires-clause-own : goal.judge_class-requires-clause-own
judge_class-requires-clause-own c =
    let same = c.requires.same ∙ map-map outline class_of c.args.classes.now in
    let many = outlined_many outline_of (λ k. outline (class_of k)) c.args.outlines.now c.args.classes.now same in
    outlined_at outline_of (λ k. outline (class_of k)) c.args.outlines.now c.args.classes.now c.loop-number.number
    c.index-outlines-number.result c.index-classes-number.result (omega (arith, many, c.loop-number-test.true)) same
    c.index-outlines-number.is c.index-classes-number.is

pub loop-number-preserved : goal.loop-number-preserved
loop-number-preserved c =
    let within : c.loop-number.number < length c.args.classes.now = search rules in
    record {
      right = mapped_more (λ k. linked_class (outlines_of c.args.outlines.now) (class_of k)) c.args.classes.now
          (map model.class_of c.loop-number.linked.items) _
          c.loop-number.number c.index-classes-number.result (model.class_of c.in_ok-one.one) within c.loop-number.invariant.right
          (ap (map model.class_of) c.in_ok-push.ensures.ok ∙ map-append model.class_of c.loop-number.linked.items (c.in_ok-one.one ∷ []))
          (c.in_ok-one.ensures.right ∙ ap (λ k. linked_class (outlines_of c.args.outlines.now) (class_of k)) c.index-classes-number.is);
      wrong = flaws_next c.args.classes.now c.loop-number.number c.index-classes-number.result within
          (λ k. class_flaws (outlines_of c.args.outlines.now) (class_of k)) (best_flaw c.loop-number.best) _ _ c.loop-number.invariant.wrong
          (c.in_ok-one.ensures.wrong ∙ ap
          (λ k. lower (best_flaw c.loop-number.best) (least (class_flaws (outlines_of c.args.outlines.now) (class_of k))))
          c.index-classes-number.is);
    }

pub returns-in-None-clause-right : goal.returns-in-None-clause-right
returns-in-None-clause-right c =
    let past : length c.args.classes.now ≤ c.loop-number.number = search rules in
    mapped_twice (linked_class (outlines_of c.args.outlines.now)) class_of c.args.classes.now _ c.loop-number.number
    c.loop-number.invariant.right past

pub returns-in-None-clause-none : goal.returns-in-None-clause-none
returns-in-None-clause-none c =
    let past : length c.args.classes.now ≤ c.loop-number.number = search rules in
    sym (ap best_flaw c.in-None.is)
    ∙ flaws_whole c.args.classes.now c.loop-number.number past (λ k. class_flaws (outlines_of c.args.outlines.now) (class_of k))
    (best_flaw c.loop-number.best) _ c.loop-number.invariant.wrong
    ∙ ap least (sym (flat_map-map (class_flaws (outlines_of c.args.outlines.now)) class_of c.args.classes.now))

pub returns-in-Some-clause-refused : goal.returns-in-Some-clause-refused
returns-in-Some-clause-refused c =
    let past : length c.args.classes.now ≤ c.loop-number.number = search rules in
    least_by _ _
    (sym (ap best_flaw c.in-Some.is)
    ∙ flaws_whole c.args.classes.now c.loop-number.number past (λ k. class_flaws (outlines_of c.args.outlines.now) (class_of k))
    (best_flaw c.loop-number.best) _ c.loop-number.invariant.wrong
    ∙ ap least (sym (flat_map-map (class_flaws (outlines_of c.args.outlines.now)) class_of c.args.classes.now)))

pub bounds-outlines-number : goal.bounds-outlines-number
bounds-outlines-number c = grind (arith, common_steps)

pub offset_bounds-outlines-number : goal.offset_bounds-outlines-number
offset_bounds-outlines-number c = grind (arith, common_steps)
