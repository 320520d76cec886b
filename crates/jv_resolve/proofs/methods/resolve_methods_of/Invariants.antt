use Rattle.std.proofs.Common.{◌≡◌, drop, map}
use Rattle.jv_tree.specs.View.{method_of as source_method}
use Rattle.jv_core.specs.View.{method_of}
use Rattle.jv_resolve_law.specs.Members.{method, methods_of}
use Rattle.jv_resolve.specs.inner.Seen.{entry_seen, tables_seen}
use Rattle.jv_resolve.specs.inner.Naming.{threaded, with_done}
use Rattle.jv_resolve.proofs.methods.resolve_methods_of.Given as goal

abbrev pub invariant-loop-method : goal.invariant-loop-method
invariant-loop-method l =
    with_done (map method_of l.initial.resolved.items) (methods_of (tables_seen l.table) l.fn.names (entry_seen l.entry)
    (map source_method l.methods))
    ≡ with_done (map method_of l.resolved.items) (threaded (λ ns m. method (tables_seen l.table) ns (entry_seen l.entry) m) l.known
    (map source_method (drop l.method-index l.methods)))
