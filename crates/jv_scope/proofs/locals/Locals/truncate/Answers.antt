use Rattle.std.proofs.Common.{◌<◌, subst, ◌∙◌}
use Rattle.jv_scope.proofs.RowSteps.{shorter}
use Rattle.jv_scope.proofs.locals.Locals.truncate.Goals as goal

pub loop-self-preserved : goal.loop-self-preserved
loop-self-preserved g c =
    shorter c.loop-self.self c.undeclare.new.self c.args.len (subst (λ n. c.args.len < n) c.len.ensures c.loop-self-test.true)
    c.undeclare.ensures ∙ c.loop-self.invariant
