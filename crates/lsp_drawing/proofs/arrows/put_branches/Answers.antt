-- The branches that the loop went over are all of them.
use Rattle.std.proofs.Common.{◌++◌, ◌∙◌, List, string_bytes, map, ap}
use Rattle.std.specs.List.{flat_map}
use Rattle.std.proofs.lemmas.List.{take_all}
use Rattle.ts_tree.specs.declared.parts.Branch.{Branch}
use Rattle.ts_tree.specs.View.{state_of}
use Rattle.lsp_drawing.specs.Diagrams.{branch_arrow}
use Rattle.lsp_drawing.proofs.arrows.put_branches.Goals as goal

pub returns : goal.returns
returns c =
    c.loop-branch.invariant
    ∙ ap (λ (xs : List Branch). string_bytes c.args.out.now
    ++ flat_map (branch_arrow (map state_of c.args.states.now) c.args.from.now c.args.call.now) xs)
    (take_all c.loop-branch.branch-index c.args.branches.now c.loop-branch-test.false)
