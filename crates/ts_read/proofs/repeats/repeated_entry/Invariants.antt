use Rattle.std.proofs.Common.{◌≡◌, drop, map}
use Rattle.ts_read.specs.inner.Finding.{first_some, repeat_entry}
use Rattle.ts_read.proofs.repeats.repeated_entry.Given as goal

abbrev pub invariant-loop-item : goal.invariant-loop-item
invariant-loop-item l = first_some (map repeat_entry (drop l.item-index l.states)) ≡ first_some (map repeat_entry l.states)
