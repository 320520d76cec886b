use Rattle.std.proofs.Common.{◌≡◌, ℕ, ◌<◌, Some}
use Rattle.vm_model.specs.Program.{Program, MethodOf, method_at}
use Rattle.vm_model.specs.View.{class_of}
use Rattle.cls_verify.specs.Typing.{Typing}
use Rattle.cls_search.specs.Beginning.{ClassIs}
use Rattle.cls_search.proofs.program.first_untypable.Given as goal

abbrev pub invariant-loop-number : goal.invariant-loop-number
invariant-loop-number l = (p : Program) (c : ℕ) → ClassIs p c l.program (class_of l.class) l.kinds →
    (n : ℕ) (other : MethodOf) → n < l.number → method_at p c n ≡ Some other → Typing p c n other
