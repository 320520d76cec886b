use Rattle.std.proofs.Common.{◌≡◌, drop, map}
use Rattle.jv_core.specs.View.{class_of}
use Rattle.jv_resolve_law.specs.Members.{class, classes}
use Rattle.jv_resolve.specs.inner.Seen.{entry_seen, tables_seen}
use Rattle.jv_resolve.specs.inner.Naming.{threaded, with_done}
use Rattle.jv_resolve.proofs.classes.resolve_classes.Given as goal

abbrev pub invariant-loop-entry : goal.invariant-loop-entry
invariant-loop-entry l =
    classes (tables_seen l.table) l.initial.names (map entry_seen l.entries)
    ≡ with_done (map (class_of) l.resolved.items) (threaded (class (tables_seen l.table)) l.names
    (map (entry_seen) (drop l.entry-index l.entries)))
