use Rattle.std.proofs.Common.{◌≡◌, ◌++◌, drop, map}
use Rattle.jv_core.specs.View.{field_of}
use Rattle.use_flow.specs.inner.Fields.{key_in}
use Rattle.use_flow.specs.inner.Listing.{listed_from, field_entry, field_entries}
use Rattle.use_flow.proofs.classed.add_fields.Given as goal

abbrev pub invariant-loop-field : goal.invariant-loop-field
invariant-loop-field l =
    l.entries.items ++ listed_from (field_entry (key_in l.table)) l.field (map field_of (drop l.field l.fields))
    ≡ l.initial.entries.items ++ field_entries (key_in l.table) (map field_of l.fields)
