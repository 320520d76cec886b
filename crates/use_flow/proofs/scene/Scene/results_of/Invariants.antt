use Rattle.std.proofs.Common.{◌≡◌, drop}
use Rattle.jv_core.specs.View.{method_of}
use Rattle.use_rules.specs.Elements.{union}
use Rattle.use_flow.specs.inner.Followed.{seen, state_results}
use Rattle.use_flow.proofs.scene.Scene.results_of.Given as goal

abbrev pub invariant-loop-state : goal.invariant-loop-state
invariant-loop-state l =
    union l.all (state_results (seen l.self) l.method_number (method_of l.method) (drop l.state-index l.states))
    ≡ state_results (seen l.self) l.method_number (method_of l.method) l.states
