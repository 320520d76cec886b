use Rattle.std.proofs.Common.{arith}
use Rattle.ts_tree.proofs.Visiting.{visits}
use Rattle.ts_tree.proofs.Visiting.{branch-within}
use Rattle.ts_tree.proofs.walk.Walk.visit_branches.Goals as goal

pub visit-requires : goal.visit-requires
visit-requires c = branch-within c.args.branches.now _ _ _ c.requires c.loop-branch-test.true c.branch-item.is c.loop-branch.self
    c.loop-branch.invariant.wide

pub loop-branch-preserved : goal.loop-branch-preserved
loop-branch-preserved c = grind (arith, visits)
