use Rattle.std.proofs.Common.{◌≡◌, [], drop, map}
use Rattle.ts_read.specs.inner.Finding.{repeat_in, state_name}
use Rattle.ts_read.proofs.repeats.repeated_state.Given as goal

abbrev pub invariant-loop-item : goal.invariant-loop-item
invariant-loop-item l = repeat_in l.met (map state_name (drop l.item-index l.states)) ≡ repeat_in [] (map state_name l.states)
