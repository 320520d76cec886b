use Rattle.std.proofs.Common.{◌≡◌, ◌||◌, drop, length}
use Rattle.vm_model.specs.Tests as model
use Rattle.vm_session.specs.State.{state_of, operands_of}
use Rattle.vm_step.specs.Needing.{wants_of}
use Rattle.vm_step.proofs.needs.misfits.Given as goal

abbrev pub invariant-loop-at : goal.invariant-loop-at
invariant-loop-at l = record {
  kind : (l.found.kind || model.some_of model.is_kind (model.misfits l.linked (state_of l.state).heap
      (wants_of (drop l.at l.takes)) (drop l.at (model.on_top (length l.takes) (operands_of l.state)))))
      ≡ (l.fn.first.kind || model.some_of model.is_kind (model.misfits l.linked (state_of l.state).heap
      (wants_of l.takes) (model.on_top (length l.takes) (operands_of l.state))));
  member : (l.found.member || model.some_of model.is_member (model.misfits l.linked (state_of l.state).heap
      (wants_of (drop l.at l.takes)) (drop l.at (model.on_top (length l.takes) (operands_of l.state)))))
      ≡ (l.fn.first.member || model.some_of model.is_member (model.misfits l.linked (state_of l.state).heap
      (wants_of l.takes) (model.on_top (length l.takes) (operands_of l.state))));
}
