use Rattle.jv_core.specs.View.{method_of}
use Rattle.use_flow.specs.View.{log_of}
use Rattle.use_flow.specs.inner.Followed.{seen}
use Rattle.use_flow.proofs.Choosing.{led_nows}
use Rattle.use_flow.proofs.scene.Scene.led_branches.Goals as goal

pub returns-clause-nows : goal.returns-clause-nows
returns-clause-nows c =
    led_nows (seen c.args.self.now) c.args.receiver c.args.number (method_of c.args.method.now) c.args.args.sets c.args.args.now
    (log_of c.args.log.now) (log_of c.protocol_call.new.log)
    c.in_ok-value.value c.in_ok-value.ensures
    (record { known = c.in_ok-now.now; variable = c.variable_at-variable.result; sets = c.in_ok-sets.sets })
    c.constants_of-constants.result.now c.in_ok-set.set c.variable_at-variable.ensures c.in_ok-now.ensures c.in_ok-set.ensures
    c.in_ok-sets.ensures c.constants_of-constants.ensures
