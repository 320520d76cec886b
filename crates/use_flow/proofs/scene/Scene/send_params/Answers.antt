use Rattle.std.proofs.Common.{arith, sym}
use Rattle.use_flow.specs.inner.Fields.{outs_in}
use Rattle.use_flow.specs.inner.Followed.{seen}
use Rattle.use_flow.proofs.Taken.{param_short, param_skip_at}
use Rattle.use_flow.proofs.scene.Scene.send_params.Goals as goal

pub returns-then-param-len : goal.returns-then-param-len
returns-then-param-len c =
    param_short (seen c.args.self.now) c.args.context c.loop-param.param c.args.params.now c.args.args.now (outs_in c.loop-param.outs.items)
    _
    (omega (arith, c.len.ensures, c.if-param-len.true)) c.loop-param.invariant

pub loop-param-preserved-in-None : goal.loop-param-preserved-in-None
loop-param-preserved-in-None c =
    param_skip_at (seen c.args.self.now) c.args.context c.loop-param.param c.args.params.now c.args.args.now _
    (outs_in c.loop-param.outs.items) _ (omega arith)
    (omega (arith, c.len.ensures, c.if-param-len.false)) (sym c.in-None.ensures) c.loop-param.invariant
