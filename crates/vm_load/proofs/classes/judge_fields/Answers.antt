use Rattle.std.proofs.Common.{rules, ◌<◌, ◌≤◌, length, map, ap, sym, ◌∙◌}
use Rattle.std.proofs.lemmas.Simd.{map-map}
use Rattle.vm_model.specs.Links.{lower, least, some_in, field_flaw}
use Rattle.vm_load.specs.Faults.{best_flaw}
use Rattle.vm_load.specs.Declaring.{declared_of}
use Rattle.vm_load.specs.Outlines.{outlines_of}
use Rattle.vm_load.proofs.ClassLaws.{some_next}
use Rattle.vm_load.proofs.Codes.{drop_whole}
use Rattle.vm_load.proofs.Lower.{lower-none}
use Rattle.vm_load.proofs.classes.judge_fields.Goals as goal

pub loop-field-preserved : goal.loop-field-preserved
loop-field-preserved c =
    let within : c.loop-field.field-index < length c.args.fields.now = search rules in
    some_next c.args.fields.now c.loop-field.field-index _ within (λ d. field_flaw (outlines_of c.args.outlines.now) (declared_of d)) _ _ _
    c.loop-field.invariant
    (c.in_ok-note_told.ensures _ c.judge_field.ensures)

pub returns : goal.returns
returns c =
    let past : length c.args.fields.now ≤ c.loop-field.field-index = search rules in
    sym (lower-none (best_flaw c.loop-field.best))
    ∙ ap (λ l. lower (best_flaw c.loop-field.best)
    (least (some_in (map (λ d. field_flaw (outlines_of c.args.outlines.now) (declared_of d)) l))))
    (sym (drop_whole c.args.fields.now c.loop-field.field-index past))
    ∙ c.loop-field.invariant
    ∙ ap (λ l. lower (best_flaw c.args.best.now) (least (some_in l)))
    (sym (map-map (field_flaw (outlines_of c.args.outlines.now)) declared_of c.args.fields.now))
