use Rattle.std.proofs.Common.{◌≡◌, [], map, take, drop}
use Rattle.vm_model.specs.Links.{duplicates}
use Rattle.vm_load.proofs.loading.table_of.Given as goal

abbrev pub invariant-loop-outline : goal.invariant-loop-outline
invariant-loop-outline l = record {
  names : l.names ≡ map (λ o. o.name.now) (take l.outline-index l.outlines);
  distinct : duplicates l.names (map (λ o. o.name.now) (drop l.outline-index l.outlines)) ≡ duplicates []
      (map (λ o. o.name.now) l.outlines);
}
