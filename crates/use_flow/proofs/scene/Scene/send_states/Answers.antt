use Rattle.std.proofs.Common.{get_or, arith, map, sym}
use Rattle.std.proofs.lemmas.Grind.{get_or_default_zero}
use Rattle.jv_core.specs.View.{method_of}
use Rattle.use_flow.specs.inner.Fields.{outs_in}
use Rattle.use_flow.specs.inner.Followed.{seen}
use Rattle.use_flow.proofs.Taken.{state_next, states_bare}
use Rattle.use_flow.proofs.scene.Scene.send_states.Goals as goal

pub loop-state-preserved : goal.loop-state-preserved
loop-state-preserved c =
    state_next (seen c.args.self.now) c.args.method_number (method_of c.args.method.now) c.args.states.now c.loop-state.state-index
    (get_or c.args.states.now c.loop-state.state-index 0) c.in_ok-context.context c.args.args.now (map (λ s. s.ty) c.params_of.result.now)
    (outs_in c.loop-state.outs.items) (outs_in c.send_params.new.outs.items) _ (omega arith)
    (sym (get_or_default_zero c.args.states.now c.loop-state.state-index _ (omega arith))) c.in_ok-context.ensures c.params_of.ensures
    c.in_ok-send_params.ensures
    c.loop-state.invariant

pub returns-then-len-eq0 : goal.returns-then-len-eq0
returns-then-len-eq0 c =
    states_bare (seen c.args.self.now) c.args.method_number (method_of c.args.method.now) c.args.states.now c.args.args.now
    (outs_in c.args.outs.now.items) (omega (arith, c.len.ensures))
