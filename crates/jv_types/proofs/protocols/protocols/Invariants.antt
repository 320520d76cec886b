use Rattle.std.proofs.Common.{◌≡◌, ◌++◌, drop, map}
use Rattle.jv_types.proofs.protocols.protocols.Given as goal

abbrev pub invariant-loop-typestate : goal.invariant-loop-typestate
invariant-loop-typestate l = map (λ p. p.of.now) l.all.items ++ drop l.typestate-index l.typestates ≡ l.typestates
