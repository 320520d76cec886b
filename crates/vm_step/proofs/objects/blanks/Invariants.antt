use Rattle.std.proofs.Common.{◌≡◌, ℕ, List, map, take}
use Rattle.std.specs.Prelude.{All}
use Rattle.mg_text.specs.Call.{Name}
use Rattle.vm_model.specs.View.{field_of}
use Rattle.vm_model.specs.Step.{blank}
use Rattle.vm_frames.specs.Seen.{values_in, IsSet}
use Rattle.vm_step.proofs.objects.blanks.Given as goal

abbrev pub invariant-loop-field : goal.invariant-loop-field
invariant-loop-field l = record {
  values : (texts : List Name) → values_in texts l.cells.items ≡ map blank (map field_of (take l.field-index l.fields));
  set : (count : ℕ) → All (IsSet count) l.cells.items;
}
