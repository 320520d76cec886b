use Rattle.std.proofs.Common.{◌≡◌, ◌++◌, drop, string_bytes}
use Rattle.use_check.specs.Report.{context_lines, in_order}
use Rattle.use_check.specs.inner.Reported.{seen}
use Rattle.use_check.proofs.lines.Reporter.put_contexts.Given as goal

abbrev pub invariant-loop-place : goal.invariant-loop-place
invariant-loop-place l =
    string_bytes l.out ++ in_order (context_lines (seen l.self)) l.place (drop l.place l.contexts)
    ≡ string_bytes l.initial.out ++ in_order (context_lines (seen l.self)) 0 l.contexts
