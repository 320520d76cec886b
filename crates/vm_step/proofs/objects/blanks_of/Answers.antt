use Rattle.std.proofs.Common.{◌≡◌, List, map, Result, Ok, Err, IfOk, ap, ◌∙◌}
use Rattle.std.specs.declared.alloc.Global.{Global}
use Rattle.std.specs.Prelude.{Vec}
use Rattle.mg_text.specs.Call.{Name}
use Rattle.mg_text.specs.declared.memory.Memory.{Memory}
use Rattle.vm_model.specs.declared.value.Value.{Value}
use Rattle.vm_model.specs.Program.{fields_in}
use Rattle.vm_model.specs.View.{field_of}
use Rattle.vm_model.specs.Step.{blank}
use Rattle.vm_frames.specs.declared.cell.Cell.{Cell}
use Rattle.vm_frames.specs.Seen.{values_in}
use Rattle.vm_step.proofs.objects.blanks_of.Goals as goal

same_blanks : (r : Result (Vec Cell Global) Memory) (x y : List Value) → x ≡ y →
    IfOk r (λ v. (texts : List Name) → values_in texts v.items ≡ x) → IfOk r (λ v. (texts : List Name) → values_in texts v.items ≡ y)
same_blanks (Ok v) x y e h = λ texts. h texts ∙ e
same_blanks (Err m) x y e h = tt

pub returns-in-Some-clause-values : goal.returns-in-Some-clause-values
returns-in-Some-clause-values c =
    same_blanks c.blanks.result _ _
    (ap (λ l. map blank (map field_of l)) c.as_slice.ensures.items
    ∙ ap (λ k. map blank (fields_in k)) (rw c.in-Some.is at c.class_at.ensures)) c.blanks.ensures.values
