use Rattle.std.proofs.Common.{reverse, ap}
use Rattle.std.proofs.lemmas.Result.{IfOk-weaker}
use Rattle.use_flow.specs.View.{log_of}
use Rattle.use_flow.specs.inner.Followed.{seen}
use Rattle.use_flow.specs.inner.Jumping.{lead_of}
use Rattle.use_flow.specs.inner.Stepping.{jump_flow}
use Rattle.use_flow.proofs.Stepping.{follows_as}
use Rattle.use_flow.proofs.scene.Scene.jump_loop.Goals as goal

pub returns : goal.returns
returns c =
    IfOk-weaker c.jump.result _ _ (λ n a.
    follows_as _ _ _ _ n _ (ap (λ y. jump_flow (seen c.args.self.now) c.args.place (lead_of c.args.lead)
    (reverse c.args.course.now.scope.items) y c.args.sets (log_of c.args.course.now.log)) c.loop_scope.ensures) a) c.jump.ensures
