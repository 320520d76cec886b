use Rattle.std.proofs.Common.{◌≡◌, [], drop, map}
use Rattle.ts_read.specs.inner.Finding.{repeat_in, label_name}
use Rattle.ts_read.proofs.repeats.repeated_branch.Given as goal

abbrev pub invariant-loop-item : goal.invariant-loop-item
invariant-loop-item l = repeat_in l.met (map label_name (drop l.item-index l.branches)) ≡ repeat_in [] (map label_name l.branches)
