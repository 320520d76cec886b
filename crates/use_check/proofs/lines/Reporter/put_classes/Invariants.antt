use Rattle.std.proofs.Common.{◌≡◌, ◌++◌, drop, map, string_bytes}
use Rattle.jv_core.specs.View.{class_of}
use Rattle.use_check.specs.Report.{class_lines, in_order}
use Rattle.use_check.specs.inner.Reported.{seen}
use Rattle.use_check.proofs.lines.Reporter.put_classes.Given as goal

abbrev pub invariant-loop-place : goal.invariant-loop-place
invariant-loop-place l =
    string_bytes l.out ++ in_order (class_lines (seen l.self)) l.place (map class_of (drop l.place l.classes))
    ≡ string_bytes l.initial.out ++ in_order (class_lines (seen l.self)) 0 (map class_of l.classes)
