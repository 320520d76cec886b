use Rattle.std.proofs.Common.{◌≡◌, [], drop}
use Rattle.jv_types.specs.inner.Blaming.{noted}
use Rattle.jv_types.proofs.naming.constant_names.Given as goal

abbrev pub invariant-loop-item : goal.invariant-loop-item
invariant-loop-item l = noted l.met (drop l.item-index l.constants) ≡ noted [] l.constants
