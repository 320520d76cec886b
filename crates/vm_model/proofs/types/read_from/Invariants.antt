use Rattle.std.proofs.Common.{◌≡◌, take, fold, []}
use Rattle.vm_model.specs.Types.{reads}
use Rattle.vm_model.specs.Descriptors.{reading_of, types_view, IsStage}
use Rattle.vm_model.proofs.types.read_from.Given as goal

abbrev pub invariant-loop-at : goal.invariant-loop-at
invariant-loop-at l =
    (fold reads (reading_of l.descriptor 0 [] l.first) (take l.at l.descriptor) ≡ reading_of l.descriptor l.at (types_view l.params.items)
    l.stage)
    × IsStage l.descriptor l.at (types_view l.params.items) l.stage
