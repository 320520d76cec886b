use Rattle.std.proofs.Common.{◌≡◌, drop, map}
use Rattle.jv_resolve_law.specs.Members.{methods}
use Rattle.jv_core.specs.View.{method_of}
use Rattle.jv_resolve.specs.inner.Naming.{with_done}
use Rattle.jv_resolve.specs.inner.Seen.{entry_seen, tables_seen}
use Rattle.jv_resolve.proofs.methods.resolve_methods.Given as goal

abbrev pub invariant-loop-entry : goal.invariant-loop-entry
invariant-loop-entry l =
    methods (tables_seen l.table) l.fn.names (map entry_seen l.entries)
    ≡ with_done (map method_of l.methods.items) (methods (tables_seen l.table) l.known (map entry_seen (drop l.entry-index l.entries)))
