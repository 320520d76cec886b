use Rattle.std.proofs.Common.{◌≡◌, ◌++◌, drop, string_bytes}
use Rattle.jv_print.specs.Layout.{case_lines}
use Rattle.jv_print.proofs.stmts.put_case_lines.Given as goal

abbrev pub invariant-loop-label : goal.invariant-loop-label
invariant-loop-label l = string_bytes l.initial.out ++ case_lines l.level l.labels ≡ string_bytes l.out ++ case_lines l.level
    (drop l.label-index l.labels)
