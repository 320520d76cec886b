use Rattle.std.proofs.Common.{map, ap, ◌∙◌}
use Rattle.std.specs.List.{flat_map}
use Rattle.cls_tree.specs.Pool.{class_at}
use Rattle.cls_tree.specs.View.{class_of}
use Rattle.vm_model.specs.View as model
use Rattle.vm_model.specs.Links.{lower, least, some_in, outline, super_flaw, or_empty, field_flaw, method_flaw, method_flaws}
use Rattle.vm_load.specs.Faults.{best_flaw}
use Rattle.vm_load.specs.Declaring.{declared_of}
use Rattle.vm_load.specs.Outlines.{outline_of, outlines_of}
use Rattle.vm_load.proofs.Maps.{if_ok_view, always}
use Rattle.vm_load.proofs.ClassLaws.{class_right, class_wrong}
use Rattle.vm_load.proofs.classes.judge_class.Goals as goal

pub returns-clause-right : goal.returns-clause-right
returns-clause-right c =
    if_ok_view model.class_of _ _
    (class_right (outline_of c.args.own.now) (outline (class_of c.args.class.now)) _ _ c.requires.own c.in_ok-methods.ensures.right)
    c.made.result c.made.ensures

pub returns-clause-wrong : goal.returns-clause-wrong
returns-clause-wrong c =
    let os = outlines_of c.args.outlines.now in
    let class = class_of c.args.class.now in
    always c.made.result
    (class_wrong (field_flaw os) (method_flaw os) (outline_of c.args.own.now) (outline class)
    (best_flaw c.args.best.now) (best_flaw c.note_told.new.best) (best_flaw c.judge_fields.new.best) (best_flaw c.judge_methods.new.best)
    (best_flaw c.judge_bodies.new.best) (super_flaw (or_empty (class_at class.pool class.super_class)))
    (flat_map (method_flaws os class.pool) class.methods)
    (c.in_ok-note_told.ensures _ c.judge_super.ensures
    ∙ ap (λ n. lower (best_flaw c.args.best.now) (super_flaw n))
    (c.or_empty-name.ensures ∙ ap or_empty (c.class_at.ensures ∙ ap (λ p. class_at p class.super_class) c.as_slice.ensures.items)))
    (c.in_ok-judge_fields.ensures
    ∙ ap (λ fs. lower (best_flaw c.note_told.new.best) (least (some_in (map (field_flaw os) (map declared_of fs)))))
    c.as_slice-2.ensures.value)
    (c.in_ok-judge_methods.ensures
    ∙ ap (λ ms. lower (best_flaw c.judge_fields.new.best) (least (some_in (map (method_flaw os) (map declared_of ms)))))
    c.as_slice-3.ensures.value)
    c.requires.own c.in_ok-methods.ensures.wrong)
