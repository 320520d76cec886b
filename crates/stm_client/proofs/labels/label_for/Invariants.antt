use Rattle.std.proofs.Common.{◌≡◌, ◌+◌, ◌-◌, length, string_bytes}
use Rattle.stm_client.specs.Client.{free_label, label_for}
use Rattle.stm_client.specs.View.{loops_of}
use Rattle.stm_client.proofs.labels.label_for.Given as goal

abbrev pub invariant-loop-step : goal.invariant-loop-step
invariant-loop-step l =
    label_for (loops_of l.loops) l.name ≡ free_label (length l.loops + 1 - l._step) (loops_of l.loops) (string_bytes l.label)
