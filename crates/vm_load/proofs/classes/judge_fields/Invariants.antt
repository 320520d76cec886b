use Rattle.std.proofs.Common.{◌≡◌, map, drop}
use Rattle.vm_model.specs.Links.{lower, least, some_in, field_flaw}
use Rattle.vm_load.specs.Faults.{best_flaw}
use Rattle.vm_load.specs.Declaring.{declared_of}
use Rattle.vm_load.specs.Outlines.{outlines_of}
use Rattle.vm_load.proofs.classes.judge_fields.Given as goal

abbrev pub invariant-loop-field : goal.invariant-loop-field
invariant-loop-field l =
    lower (best_flaw l.best) (least
    (some_in (map (λ d. field_flaw (outlines_of l.outlines) (declared_of d)) (drop l.field-index l.fields))))
    ≡ lower (best_flaw l.fn.best) (least (some_in (map (λ d. field_flaw (outlines_of l.outlines) (declared_of d)) l.fields)))
