use Rattle.std.proofs.Common.{◌≡◌, ◌++◌, string_bytes, map, take}
use Rattle.std.specs.List.{flat_map}
use Rattle.ts_tree.specs.View.{method_of, state_of}
use Rattle.lsp_drawing.specs.Diagrams.{method_arrows}
use Rattle.lsp_drawing.proofs.arrows.put_methods.Given as goal

abbrev pub invariant-loop-method : goal.invariant-loop-method
invariant-loop-method l =
    string_bytes l.out ≡ string_bytes l.initial.out ++ flat_map (λ m. method_arrows (map state_of l.states) l.from (method_of m))
    (take l.method-index l.methods)
