use Rattle.std.proofs.Common.{◌≡◌, drop, map}
use Rattle.ts_read.specs.inner.Finding.{first_some, at_method, repeat_label}
use Rattle.ts_read.proofs.repeats.repeated_label_in.Given as goal

abbrev pub invariant-loop-item : goal.invariant-loop-item
invariant-loop-item l = first_some (map (at_method repeat_label) (drop l.item-index l.entries)) ≡ first_some
    (map (at_method repeat_label) l.entries)
