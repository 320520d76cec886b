use Rattle.std.proofs.Common.{◌≡◌, ◌++◌, drop, map}
use Rattle.jv_core.specs.View.{class_of}
use Rattle.use_flow.specs.inner.Listing.{listed_from, class_entries, by_classes}
use Rattle.use_flow.proofs.classed.add_classes.Given as goal

abbrev pub invariant-loop-place : goal.invariant-loop-place
invariant-loop-place l =
    l.entries.items ++ listed_from (class_entries l.core) l.place (map class_of (drop l.place l.classes))
    ≡ l.initial.entries.items ++ by_classes l.core
