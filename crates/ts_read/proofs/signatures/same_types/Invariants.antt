use Rattle.std.proofs.Common.{◌≡◌, length}
use Rattle.ts_read.specs.inner.Signing.{types_eq}
use Rattle.ts_read.proofs.signatures.same_types.Given as goal

abbrev pub invariant-types : goal.invariant-types
invariant-types l = types_eq l.lefts l.rights ≡ types_eq l.left l.right

abbrev pub decreases-types : goal.decreases-types
decreases-types l = length l.lefts
