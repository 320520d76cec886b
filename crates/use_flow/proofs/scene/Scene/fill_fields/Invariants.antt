use Rattle.std.proofs.Common.{◌≡◌, drop, map}
use Rattle.jv_core.specs.View.{field_of}
use Rattle.use_flow.specs.inner.Fields.{key_in}
use Rattle.use_flow.specs.inner.Followed.{seen, with_fields_from}
use Rattle.use_flow.proofs.scene.Scene.fill_fields.Given as goal

abbrev pub invariant-loop-field : goal.invariant-loop-field
invariant-loop-field l =
    with_fields_from (seen l.self) (key_in l.table) l.field (map field_of (drop l.field l.fields)) l.sets
    ≡ with_fields_from (seen l.self) (key_in l.table) 0 (map field_of l.fields) l.initial.sets
