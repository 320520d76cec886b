use Rattle.std.proofs.Common.{◌≡◌, ◌++◌, drop, map, string_bytes}
use Rattle.jv_core.specs.View.{loop_of, method_of}
use Rattle.use_check.specs.Report.{loop_lines, in_order}
use Rattle.use_check.specs.inner.Reported.{seen}
use Rattle.use_check.proofs.lines.Reporter.put_loops.Given as goal

abbrev pub invariant-loop-place : goal.invariant-loop-place
invariant-loop-place l =
    string_bytes l.out ++ in_order (loop_lines (seen l.self) l.name l.context (method_of l.method)) l.place
    (map loop_of (drop l.place l.loops))
    ≡ string_bytes l.initial.out ++ in_order (loop_lines (seen l.self) l.name l.context (method_of l.method)) 0 (map loop_of l.loops)
