use Rattle.std.proofs.Common.{rules, ◌<◌, ◌≤◌, [], length, map, sym, ap, ◌∙◌}
use Rattle.std.proofs.lemmas.Simd.{map-map}
use Rattle.vm_model.specs.Links.{duplicates, Outline}
use Rattle.vm_load.specs.Outlines.{outline_of}
use Rattle.vm_load.specs.declared.outline.Outline.{Outline as Kept}
use Rattle.vm_load.proofs.Codes.{drop_whole}
use Rattle.vm_load.proofs.Maps.{mapped_twice}
use Rattle.vm_load.proofs.Loads.{refused_here, names_on, distinct_on}
use Rattle.vm_load.proofs.loading.table_of.Goals as goal

pub returns-then-is_taken-clause-refused : goal.returns-then-is_taken-clause-refused
returns-then-is_taken-clause-refused c = λ rest.
    let within : c.loop-outline.outline-index < length c.args.outlines.now = search rules in
    refused_here (λ (o : Kept). o.name.now) c.args.outlines.now c.loop-outline.outline-index c.outline-item.result within c.outline-item.is
    c.loop-outline.names
    c.loop-outline.invariant.names c.loop-outline.invariant.distinct _ (map-map (λ (o : Outline). o.name) outline_of c.args.outlines.now)
    (sym c.is_taken.ensures ∙ c.if-is_taken.true) c.duplicate_class.result c.duplicate_class.ensures rest

pub loop-outline-preserved : goal.loop-outline-preserved
loop-outline-preserved c =
    let within : c.loop-outline.outline-index < length c.args.outlines.now = search rules in
    record {
      names = names_on (λ (o : Kept). o.name.now) c.args.outlines.now c.loop-outline.outline-index c.outline-item.result within
          c.outline-item.is c.loop-outline.names
          c.loop-outline.invariant.names c.loop-outline.invariant.distinct c.add.new.self (sym c.is_taken.ensures ∙ c.if-is_taken.false)
          c.in-Ok.ensures.ok;
      distinct = distinct_on (λ (o : Kept). o.name.now) c.args.outlines.now c.loop-outline.outline-index c.outline-item.result within
          c.outline-item.is c.loop-outline.names
          c.loop-outline.invariant.names c.loop-outline.invariant.distinct c.add.new.self (sym c.is_taken.ensures ∙ c.if-is_taken.false)
          c.in-Ok.ensures.ok;
    }

pub returns-clause-names : goal.returns-clause-names
returns-clause-names c =
    let past : length c.args.outlines.now ≤ c.loop-outline.outline-index = search rules in
    mapped_twice (λ (o : Outline). o.name) outline_of c.args.outlines.now c.loop-outline.names c.loop-outline.outline-index
    c.loop-outline.invariant.names past

pub returns-clause-distinct : goal.returns-clause-distinct
returns-clause-distinct c =
    let past : length c.args.outlines.now ≤ c.loop-outline.outline-index = search rules in
    ap (duplicates []) (map-map (λ (o : Outline). o.name) outline_of c.args.outlines.now) ∙ sym c.loop-outline.invariant.distinct
    ∙ ap (λ l. duplicates c.loop-outline.names (map (λ (o : Kept). o.name.now) l))
    (drop_whole c.args.outlines.now c.loop-outline.outline-index past)
