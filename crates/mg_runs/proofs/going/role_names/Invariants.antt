use Rattle.std.proofs.Common.{◌≡◌, map, take}
use Rattle.mg_runs.proofs.going.role_names.Given as goal

abbrev pub invariant-loop-main : goal.invariant-loop-main
invariant-loop-main l = l.names.items ≡ map (λ m. m.role) (take l.main-index l.mains)
