use Rattle.std.proofs.Common.{◌≡◌, length, map}
use Rattle.jv_types.specs.inner.Declaring.{types_eq}
use Rattle.jv_types.proofs.demands.same_types.Given as goal

abbrev pub invariant-types : goal.invariant-types
invariant-types l = types_eq l.lefts (map (λ p. p.ty) l.rights) ≡ types_eq l.left (map (λ p. p.ty) l.right)

abbrev pub decreases-types : goal.decreases-types
decreases-types l = length l.lefts
