use Rattle.std.proofs.Common.{◌≡◌, ◌++◌, drop, map}
use Rattle.use_flow.specs.inner.Fields.{outs_in}
use Rattle.use_flow.specs.inner.Followed.{seen, to_states}
use Rattle.use_flow.proofs.scene.Scene.send_branches.Given as goal

abbrev pub invariant-loop-branch : goal.invariant-loop-branch
invariant-loop-branch l =
    outs_in l.outs.items ++ to_states (seen l.self) l.class (map (λ b. b.to) (drop l.branch-index l.branches)) l.sets
    ≡ outs_in l.initial.outs.items ++ to_states (seen l.self) l.class (map (λ b. b.to) l.branches) l.sets
