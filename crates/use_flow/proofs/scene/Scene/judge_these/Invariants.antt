use Rattle.std.proofs.Common.{◌≡◌, ◌++◌, drop, map}
use Rattle.jv_core.specs.View.{field_of}
use Rattle.use_flow.specs.inner.Followed.{seen, open_fields}
use Rattle.use_flow.proofs.scene.Scene.judge_these.Given as goal

abbrev pub invariant-loop-field : goal.invariant-loop-field
invariant-loop-field l =
    l.failed.items ++ open_fields (seen l.self) l.place l.field (map field_of (drop l.field l.fields)) l.sets
    ≡ l.initial.failed.items ++ open_fields (seen l.self) l.place 0 (map field_of l.fields) l.sets
