use Rattle.std.proofs.Common.{rules, ◌<◌, ◌≤◌, length, map, ap, sym, ◌∙◌}
use Rattle.std.proofs.lemmas.Simd.{map-map}
use Rattle.vm_model.specs.Links.{lower, least, some_in, method_flaw}
use Rattle.vm_load.specs.Faults.{best_flaw}
use Rattle.vm_load.specs.Declaring.{declared_of}
use Rattle.vm_load.specs.Outlines.{outlines_of}
use Rattle.vm_load.proofs.ClassLaws.{some_next}
use Rattle.vm_load.proofs.Codes.{drop_whole}
use Rattle.vm_load.proofs.Lower.{lower-none}
use Rattle.vm_load.proofs.classes.judge_methods.Goals as goal

pub loop-method-preserved : goal.loop-method-preserved
loop-method-preserved c =
    let within : c.loop-method.method-index < length c.args.methods.now = search rules in
    some_next c.args.methods.now c.loop-method.method-index _ within (λ d. method_flaw (outlines_of c.args.outlines.now) (declared_of d)) _
    _ _ c.loop-method.invariant
    (c.in_ok-note_told.ensures _ c.judge_method.ensures)

pub returns : goal.returns
returns c =
    let past : length c.args.methods.now ≤ c.loop-method.method-index = search rules in
    sym (lower-none (best_flaw c.loop-method.best))
    ∙ ap (λ l. lower (best_flaw c.loop-method.best)
    (least (some_in (map (λ d. method_flaw (outlines_of c.args.outlines.now) (declared_of d)) l))))
    (sym (drop_whole c.args.methods.now c.loop-method.method-index past))
    ∙ c.loop-method.invariant
    ∙ ap (λ l. lower (best_flaw c.args.best.now) (least (some_in l)))
    (sym (map-map (method_flaw (outlines_of c.args.outlines.now)) declared_of c.args.methods.now))
