use Rattle.std.proofs.Common.{arith}
use Rattle.ts_tree.proofs.Visiting.{visits}
use Rattle.ts_tree.proofs.Visiting.{method-within}
use Rattle.ts_tree.proofs.walk.Walk.visit_all.Goals as goal

pub visit_targets-requires : goal.visit_targets-requires
visit_targets-requires c = method-within c.args.methods.now _ _ _ c.requires c.loop-method-test.true c.method-item.is c.loop-method.self
    c.loop-method.invariant.wide

pub loop-method-preserved : goal.loop-method-preserved
loop-method-preserved c = grind (arith, visits)
