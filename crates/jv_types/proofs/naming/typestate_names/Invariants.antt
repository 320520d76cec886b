use Rattle.std.proofs.Common.{◌≡◌, [], drop, map}
use Rattle.jv_types.specs.inner.Blaming.{noted}
use Rattle.jv_types.proofs.naming.typestate_names.Given as goal

abbrev pub invariant-loop-item : goal.invariant-loop-item
invariant-loop-item l = noted l.met (map (λ t. t.name) (drop l.item-index l.typestates)) ≡ noted [] (map (λ t. t.name) l.typestates)
