use Rattle.jv_core.specs.View.{expr_of}
use Rattle.use_flow.specs.View.{log_of}
use Rattle.use_flow.specs.inner.Followed.{seen}
use Rattle.use_flow.proofs.Choosing.{plain_nows}
use Rattle.use_flow.proofs.scene.Scene.plain_branches.Goals as goal

pub returns-clause-nows : goal.returns-clause-nows
returns-clause-nows c =
    plain_nows (seen c.args.self.now) (expr_of c.args.value.now) c.args.sets (log_of c.args.log.now) (log_of c.eval.new.log)
    c.in_ok-set.field-0
    c.in_ok-set.ensures (record { known = c.in_ok-now.now; variable = c.count-variable.result; sets = c.in_ok-empty.empty })
    c.constants_of-constants.result.now c.type_dropped.result
    c.type_dropped.ensures c.in_ok-now.ensures c.count-variable.ensures c.in_ok-empty.ensures c.constants_of-constants.ensures
