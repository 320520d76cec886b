use Rattle.std.proofs.Common.{◌≡◌, ◌++◌, drop, map, string_bytes}
use Rattle.jv_core.specs.View.{slot_of}
use Rattle.use_check.specs.Report.{param_line, in_order}
use Rattle.use_check.specs.inner.Reported.{seen}
use Rattle.use_check.proofs.lines.Reporter.put_params.Given as goal

abbrev pub invariant-loop-place : goal.invariant-loop-place
invariant-loop-place l =
    string_bytes l.out ++ in_order (param_line (seen l.self) (string_bytes l.front) l.context) l.place (map slot_of (drop l.place l.params))
    ≡ string_bytes l.initial.out ++ in_order (param_line (seen l.self) (string_bytes l.front) l.context) 0 (map slot_of l.params)
