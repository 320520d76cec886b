use Rattle.std.proofs.Common.{◌≡◌, drop, map}
use Rattle.ts_read.specs.inner.Finding.{first_some, repeat_labels}
use Rattle.ts_read.proofs.repeats.repeated_label.Given as goal

abbrev pub invariant-loop-item : goal.invariant-loop-item
invariant-loop-item l = first_some (map repeat_labels (drop l.item-index l.states)) ≡ first_some (map repeat_labels l.states)
