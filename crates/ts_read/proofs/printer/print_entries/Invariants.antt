use Rattle.std.proofs.Common.{◌≡◌, ◌++◌, string_bytes, map, take}
use Rattle.ts_tree.specs.View.{method_of, state_of}
use Rattle.ts_read.proofs.Separated.{behind_lines}
use Rattle.ts_read.proofs.printer.print_entries.Given as goal

abbrev pub invariant-loop-method : goal.invariant-loop-method
invariant-loop-method l = string_bytes l.out ≡ string_bytes l.initial.out ++ behind_lines (map state_of l.states) method_of
    (take l.method-index l.rest)
