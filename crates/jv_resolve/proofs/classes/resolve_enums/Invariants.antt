use Rattle.std.proofs.Common.{◌≡◌, drop, map}
use Rattle.jv_tree.specs.View.{enum_of as source_enum}
use Rattle.jv_core.specs.View.{enum_of}
use Rattle.jv_resolve_law.specs.Members.{enum, enums}
use Rattle.jv_resolve.specs.inner.Naming.{threaded, with_done}
use Rattle.jv_resolve.proofs.classes.resolve_enums.Given as goal

abbrev pub invariant-loop-entry : goal.invariant-loop-entry
invariant-loop-entry l =
    enums l.initial.names (map (λ e. source_enum e.of.now) l.entries)
    ≡ with_done (map (enum_of) l.resolved.items) (threaded enum l.names (map (λ e. source_enum e.of.now) (drop l.entry-index l.entries)))
