use Rattle.std.proofs.Common.{◌≡◌, map, drop}
use Rattle.vm_model.specs.Links.{lower, least, some_in, method_flaw}
use Rattle.vm_load.specs.Faults.{best_flaw}
use Rattle.vm_load.specs.Declaring.{declared_of}
use Rattle.vm_load.specs.Outlines.{outlines_of}
use Rattle.vm_load.proofs.classes.judge_methods.Given as goal

abbrev pub invariant-loop-method : goal.invariant-loop-method
invariant-loop-method l =
    lower (best_flaw l.best) (least
    (some_in (map (λ d. method_flaw (outlines_of l.outlines) (declared_of d)) (drop l.method-index l.methods))))
    ≡ lower (best_flaw l.fn.best) (least (some_in (map (λ d. method_flaw (outlines_of l.outlines) (declared_of d)) l.methods)))
