use Rattle.std.proofs.Common.{◌≡◌, drop}
use Rattle.cls_layout.specs.Faults.{ends_well}
use Rattle.cls_layout.proofs.judging.is_well_ended.Given as goal

abbrev pub invariant-loop-field : goal.invariant-loop-field
invariant-loop-field l = ends_well (drop l.field-index l.later) ≡ ends_well l.later
