use Rattle.std.proofs.Common.{[]}
use Rattle.std.proofs.lemmas.Result.{IfOk-weaker}
use Rattle.jv_core.specs.View.{expr_of}
use Rattle.use_flow.specs.View.{log_of}
use Rattle.use_flow.specs.inner.Followed.{seen}
use Rattle.use_flow.proofs.Simply.{local_is}
use Rattle.use_flow.proofs.scene.Scene.step_local.Goals as goal

pub returns : goal.returns
returns c =
    IfOk-weaker c.exit.result _ _ (λ n e.
    local_is (seen c.args.self.now) (log_of c.args.log.now) (expr_of c.args.value.now) (log_of c.declare.new.log) c.in_ok-now.now
    c.args.place c.args.slot c.args.sets n _ c.in_ok-now.ensures e) (c.exit.ensures [])
