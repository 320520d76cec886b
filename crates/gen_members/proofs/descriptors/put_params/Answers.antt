use Rattle.gen_members.proofs.Described.{param_put, params_put}
use Rattle.gen_members.proofs.descriptors.put_params.Goals as goal

pub loop-param-preserved : goal.loop-param-preserved
loop-param-preserved c = param_put c.args.core.now c.args.params.now c.loop-param.param-index _ _ _ _
    c.loop-param-test.true c.in_ok-put_type.ensures c.loop-param.invariant

pub returns : goal.returns
returns c = params_put c.args.core.now c.args.params.now c.loop-param.param-index _ _ c.loop-param-test.false
    c.loop-param.invariant
