use Rattle.std.proofs.Common.{◌≡◌, ◌++◌, drop, map, string_bytes}
use Rattle.std.specs.List.{flat_map}
use Rattle.jv_tree.specs.View.{method_of}
use Rattle.jv_print.specs.Layout.{method_lines}
use Rattle.jv_print.proofs.files.put_methods.Given as goal

abbrev pub invariant-loop-method : goal.invariant-loop-method
invariant-loop-method l = string_bytes l.initial.out ++ flat_map method_lines (map method_of l.methods) ≡ string_bytes l.out
    ++ flat_map method_lines (map method_of (drop l.method-index l.methods))
