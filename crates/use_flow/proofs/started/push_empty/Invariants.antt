use Rattle.std.proofs.Common.{◌≡◌, ◌-◌, ◌++◌, [], replicate}
use Rattle.use_flow.proofs.started.push_empty.Given as goal

abbrev pub invariant-loop-place : goal.invariant-loop-place
invariant-loop-place l = l.sets ++ replicate (l.count - l._place) [] ≡ l.initial.sets ++ replicate (l.count - 0) []
