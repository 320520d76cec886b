use Rattle.std.proofs.Common.{◌≡◌, ◌++◌, map}
use Rattle.use_flow.specs.inner.Fields.{outs_in}
use Rattle.use_flow.specs.inner.Followed.{seen, param_outs}
use Rattle.use_flow.proofs.Taken.{rest_outs}
use Rattle.use_flow.proofs.scene.Scene.send_params.Given as goal

abbrev pub invariant-loop-param : goal.invariant-loop-param
invariant-loop-param l =
    outs_in l.outs.items ++ rest_outs (seen l.self) l.context l.params l.args l.param
    ≡ outs_in l.initial.outs.items ++ param_outs (seen l.self) l.context 0 (map (λ s. s.ty) l.params) l.args
