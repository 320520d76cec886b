use Rattle.std.proofs.Common.{◌≡◌, [], drop, map}
use Rattle.jv_types.specs.inner.Blaming.{noted}
use Rattle.jv_types.proofs.naming.class_names.Given as goal

abbrev pub invariant-loop-item : goal.invariant-loop-item
invariant-loop-item l = noted l.met (map (λ e. e.class.now.name) (drop l.item-index l.entries)) ≡ noted []
    (map (λ e. e.class.now.name) l.entries)
