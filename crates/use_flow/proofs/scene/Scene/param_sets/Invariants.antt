use Rattle.std.proofs.Common.{◌≡◌, ◌++◌, drop, map}
use Rattle.use_flow.specs.inner.Followed.{seen}
use Rattle.use_flow.specs.inner.Starting.{params_from}
use Rattle.use_flow.proofs.scene.Scene.param_sets.Given as goal

abbrev pub invariant-loop-param : goal.invariant-loop-param
invariant-loop-param l =
    l.sets ++ params_from (seen l.self) l.param (map (λ s. s.ty) (drop l.param l.params)) ≡ params_from (seen l.self) 0
    (map (λ s. s.ty) l.params)
