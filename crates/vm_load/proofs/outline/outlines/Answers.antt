use Rattle.std.proofs.Common.{rules, ◌<◌, [], ◌∷◌, length, map, ap, ◌∙◌}
use Rattle.std.proofs.lemmas.List.{map-append}
use Rattle.cls_tree.specs.View.{class_of}
use Rattle.vm_model.specs.Links.{outline}
use Rattle.vm_load.specs.Outlines.{outline_of}
use Rattle.vm_load.proofs.Maps.{mapped_more, mapped_twice}
use Rattle.vm_load.proofs.outline.outlines.Goals as goal

pub loop-class-preserved : goal.loop-class-preserved
loop-class-preserved c =
    let within : c.loop-class.class-index < length c.args.classes.now = search rules in
    mapped_more (λ k. outline (class_of k)) c.args.classes.now (map outline_of c.loop-class.all.items) _ c.loop-class.class-index
    c.class-item.result
    (outline_of c.in_ok-one.one) within c.loop-class.invariant
    (ap (map outline_of) c.in_ok-push.ensures.items ∙ map-append outline_of c.loop-class.all.items (c.in_ok-one.one ∷ []))
    (c.in_ok-one.ensures ∙ ap (λ k. outline (class_of k)) c.class-item.is)

pub returns : goal.returns
returns c = mapped_twice outline class_of c.args.classes.now _ c.loop-class.class-index c.loop-class.invariant c.loop-class-test.false
