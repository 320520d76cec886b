use Rattle.std.proofs.Common.{◌≡◌, ◌++◌, string_bytes, map, take}
use Rattle.std.specs.List.{flat_map}
use Rattle.ts_tree.specs.View.{state_of}
use Rattle.lsp_drawing.specs.Diagrams.{state_arrows}
use Rattle.lsp_drawing.proofs.arrows.put_states.Given as goal

abbrev pub invariant-loop-state : goal.invariant-loop-state
invariant-loop-state l =
    string_bytes l.out ≡ string_bytes l.initial.out ++ flat_map (λ s. state_arrows (map state_of l.states) (state_of s))
    (take l.state-index l.states)
