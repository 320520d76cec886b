use Rattle.std.proofs.Common.{◌≡◌, [], drop, map}
use Rattle.jv_types.specs.inner.Blaming.{noted}
use Rattle.jv_types.proofs.naming.field_names.Given as goal

abbrev pub invariant-loop-item : goal.invariant-loop-item
invariant-loop-item l = noted l.met (map (λ f. f.name) (drop l.item-index l.fields)) ≡ noted [] (map (λ f. f.name) l.fields)
