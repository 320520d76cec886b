use Rattle.std.proofs.Common.{◌≡◌, [], false, drop}
use Rattle.ts_read.specs.inner.Finding.{twice_in}
use Rattle.ts_read.proofs.repeats.repeated_here.Given as goal

abbrev pub invariant-loop-item : goal.invariant-loop-item
invariant-loop-item l = twice_in l.dropped l.met (drop l.item-index l.entries) ≡ twice_in false [] l.entries
