use Rattle.std.proofs.Common.{◌≡◌, ◌++◌, string_bytes, map, take}
use Rattle.std.specs.Prelude.{filter}
use Rattle.std.specs.List.{flat_map}
use Rattle.ts_tree.specs.View.{state_of}
use Rattle.lsp_defined.specs.Lines.{line_of, is_meant}
use Rattle.lsp_defined.proofs.lines.put_among.Given as goal

abbrev pub invariant-loop-state : goal.invariant-loop-state
invariant-loop-state l =
    string_bytes l.out ≡ string_bytes l.initial.out ++ flat_map (line_of (map state_of l.states) l.spot.method)
    (filter (is_meant l.spot.state) (map state_of (take l.state-index l.states)))
