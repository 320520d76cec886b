use Rattle.std.proofs.Common.{◌≡◌, Bool, false, Option, None, map, drop, length}
use Rattle.mg_text.specs.declared.event.BadKind.{BadKind}
use Rattle.vm_model.specs.Kept.{type_kept}
use Rattle.vm_model.specs.Tests.{Typed, misfits, on_top, some_of}
use Rattle.vm_session.specs.State.{state_of, operands_of}
use Rattle.vm_step.proofs.quiet.fit.Given as goal

abbrev pub invariant-loop-at : goal.invariant-loop-at
invariant-loop-at l = (test : Option BadKind → Bool) → test None ≡ false →
    some_of test (misfits l.linked (state_of l.state).heap (map Typed (map type_kept (drop l.at l.params)))
    (drop l.at (on_top (length l.params) (operands_of l.state))))
    ≡ some_of test (misfits l.linked (state_of l.state).heap (map Typed (map type_kept l.params))
    (on_top (length l.params) (operands_of l.state)))
