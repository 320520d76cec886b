use Rattle.std.proofs.Common.{◌≡◌, [], drop, map}
use Rattle.jv_types.specs.inner.Blaming.{noted}
use Rattle.jv_types.proofs.naming.method_names.Given as goal

abbrev pub invariant-loop-item : goal.invariant-loop-item
invariant-loop-item l = noted l.met (map (λ m. m.name) (drop l.item-index l.methods)) ≡ noted [] (map (λ m. m.name) l.methods)
