use Rattle.std.proofs.Common.{◌≡◌, ℕ, ◌<◌, Some}
use Rattle.vm_model.specs.Program.{MethodOf, method_at}
use Rattle.vm_model.specs.View.{classes_of}
use Rattle.cls_verify.specs.Typing.{Typing}
use Rattle.cls_search.proofs.program.first_place.Given as goal

abbrev pub invariant-loop-number : goal.invariant-loop-number
invariant-loop-number l = (c m : ℕ) (other : MethodOf) → c < l.number → method_at (classes_of l.classes) c m ≡ Some other →
    Typing (classes_of l.classes) c m other
