use Rattle.std.proofs.Common.{◌≡◌, ◌++◌, drop}
use Rattle.jv_core.specs.View.{method_of}
use Rattle.use_flow.specs.inner.Fields.{outs_in}
use Rattle.use_flow.specs.inner.Followed.{seen, state_outs}
use Rattle.use_flow.proofs.scene.Scene.send_states.Given as goal

abbrev pub invariant-loop-state : goal.invariant-loop-state
invariant-loop-state l =
    outs_in l.outs.items ++ state_outs (seen l.self) l.method_number (method_of l.method) (drop l.state-index l.states) l.args
    ≡ outs_in l.initial.outs.items ++ state_outs (seen l.self) l.method_number (method_of l.method) l.states l.args
