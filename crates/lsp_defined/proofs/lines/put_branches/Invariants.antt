use Rattle.std.proofs.Common.{◌≡◌, ◌++◌, string_bytes, map, take}
use Rattle.ts_tree.specs.View.{state_of}
use Rattle.ts_read.specs.Layout.{branch_text}
use Rattle.ts_read.proofs.Separated.{behind_commas}
use Rattle.lsp_defined.proofs.lines.put_branches.Given as goal

abbrev pub invariant-loop-branch : goal.invariant-loop-branch
invariant-loop-branch l = string_bytes l.out ≡ string_bytes l.initial.out ++ behind_commas (branch_text (map state_of l.states))
    (take l.branch-index l.rest)
