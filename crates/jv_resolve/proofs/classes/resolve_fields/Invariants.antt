use Rattle.std.proofs.Common.{◌≡◌, drop, map}
use Rattle.jv_tree.specs.View.{field_of as source_field}
use Rattle.jv_core.specs.View.{field_of}
use Rattle.jv_resolve_law.specs.Members.{field, fields}
use Rattle.jv_resolve.specs.inner.Seen.{tables_seen}
use Rattle.jv_resolve.specs.inner.Naming.{threaded, with_done}
use Rattle.jv_resolve.proofs.classes.resolve_fields.Given as goal

abbrev pub invariant-loop-field : goal.invariant-loop-field
invariant-loop-field l =
    fields (tables_seen l.table) l.initial.names (map source_field l.fields)
    ≡ with_done (map (field_of) l.resolved.items) (threaded (field (tables_seen l.table)) l.names
    (map (source_field) (drop l.field-index l.fields)))
