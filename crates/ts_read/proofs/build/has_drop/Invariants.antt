use Rattle.std.proofs.Common.{◌≡◌, drop, map}
use Rattle.ts_parse.specs.Written.{wentry_of, has_drop}
use Rattle.ts_read.proofs.build.has_drop.Given as goal

abbrev pub invariant-loop-item : goal.invariant-loop-item
invariant-loop-item l = has_drop (map wentry_of (drop l.item-index l.entries)) ≡ has_drop (map wentry_of l.entries)
