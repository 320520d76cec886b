use Rattle.std.proofs.Common.{◌≡◌, ◌++◌, string_bytes, map, take}
use Rattle.std.specs.List.{flat_map}
use Rattle.ts_tree.specs.View.{state_of}
use Rattle.ts_read.specs.Layout.{state_text}
use Rattle.ts_read.proofs.printer.print_states.Given as goal

abbrev pub invariant-loop-state : goal.invariant-loop-state
invariant-loop-state l =
    string_bytes l.out ≡ string_bytes l.initial.out ++ flat_map (λ s. state_text (map state_of l.states) (state_of s))
    (take l.state-index l.states)
