-- What the code asks of a value that is dropped is what the rules ask.
use Rattle.std.proofs.lemmas.Result.{IfOk-weaker}
use Rattle.jv_core.specs.View.{expr_of}
use Rattle.use_flow.specs.View.{log_of}
use Rattle.use_flow.specs.inner.Followed.{seen}
use Rattle.use_flow.proofs.Simply.{dropped_as}
use Rattle.use_flow.proofs.scene.Scene.step_dropped.Goals as goal

-- src/simple.rt:149:5
pub returns : goal.returns
returns c =
    IfOk-weaker c.after.result _ _ (λ n en.
    dropped_as (seen c.args.self.now) (log_of c.args.log.now) (expr_of c.args.value.now) (log_of c.eval.new.log) n c.args.place
    c.type_dropped.result c.class_or_none.result c.in_ok-behind_variables.field-0 _ c.args.sets c.in_ok-set.field-0 _
    c.type_dropped.ensures c.class_or_none.ensures c.in_ok-behind_variables.ensures c.typestate_of-typestate.ensures c.in_ok-set.ensures en
    c.in_ok-judge.ensures) c.after.ensures
