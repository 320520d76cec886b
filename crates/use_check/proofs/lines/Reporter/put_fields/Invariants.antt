use Rattle.std.proofs.Common.{◌≡◌, ◌++◌, drop, map, string_bytes}
use Rattle.jv_core.specs.View.{field_of}
use Rattle.use_flow.specs.inner.Fields.{key_in}
use Rattle.use_check.specs.Report.{field_line, in_order}
use Rattle.use_check.specs.inner.Reported.{seen}
use Rattle.use_check.proofs.lines.Reporter.put_fields.Given as goal

abbrev pub invariant-loop-place : goal.invariant-loop-place
invariant-loop-place l =
    string_bytes l.out ++ in_order (field_line (seen l.self) l.front (key_in l.table)) l.place (map field_of (drop l.place l.fields))
    ≡ string_bytes l.initial.out ++ in_order (field_line (seen l.self) l.front (key_in l.table)) 0 (map field_of l.fields)
