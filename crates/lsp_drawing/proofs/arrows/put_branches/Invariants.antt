use Rattle.std.proofs.Common.{◌≡◌, ◌++◌, string_bytes, map, take}
use Rattle.std.specs.List.{flat_map}
use Rattle.ts_tree.specs.View.{state_of}
use Rattle.lsp_drawing.specs.Diagrams.{branch_arrow}
use Rattle.lsp_drawing.proofs.arrows.put_branches.Given as goal

abbrev pub invariant-loop-branch : goal.invariant-loop-branch
invariant-loop-branch l =
    string_bytes l.out ≡ string_bytes l.initial.out ++ flat_map (branch_arrow (map state_of l.states) l.from l.call)
    (take l.branch-index l.branches)
