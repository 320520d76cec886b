use Rattle.std.proofs.Common.{◌≡◌, drop}
use Rattle.vm_model.specs.Links.{unknown_in}
use Rattle.vm_model.specs.Descriptors.{types_view}
use Rattle.vm_load.specs.Outlines.{outlines_of}
use Rattle.vm_load.proofs.descriptor.unknown_in.Given as goal

abbrev pub invariant-loop-ty : goal.invariant-loop-ty
invariant-loop-ty l = unknown_in (outlines_of l.outlines) (types_view (drop l.ty-index l.types)) ≡ unknown_in (outlines_of l.outlines)
    (types_view l.types)
