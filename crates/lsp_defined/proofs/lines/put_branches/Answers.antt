-- The first branch, and then the others behind commas, are the list.
use Rattle.std.proofs.Common.{map}
use Rattle.ts_tree.specs.View.{state_of}
use Rattle.ts_read.specs.Layout.{branch_text}
use Rattle.ts_read.proofs.Separated.{listed_done}
use Rattle.lsp_defined.proofs.lines.put_branches.Goals as goal

pub returns : goal.returns
returns c = listed_done (branch_text
    (map state_of c.args.states.now)) _ _ _ _ _ _ c.in-len1-up.len_at_least c.first-item.is c.loop-branch-test.false
    c.in_ok-put_branch.ensures c.loop-branch.invariant
