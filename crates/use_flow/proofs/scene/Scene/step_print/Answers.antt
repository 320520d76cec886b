use Rattle.std.proofs.lemmas.Result.{IfOk-weaker}
use Rattle.jv_core.specs.View.{expr_of}
use Rattle.use_flow.specs.View.{log_of}
use Rattle.use_flow.specs.inner.Followed.{seen}
use Rattle.use_flow.proofs.Simply.{printed_is}
use Rattle.use_flow.proofs.scene.Scene.step_print.Goals as goal

pub returns : goal.returns
returns c =
    IfOk-weaker c.after.result _ _ (λ n en.
    printed_is (seen c.args.self.now) (log_of c.args.log.now) (expr_of c.args.value.now) (log_of c.eval.new.log) n
    c.args.sets c.in_ok-set.field-0 c.in_ok-set.ensures en) c.after.ensures
