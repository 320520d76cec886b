use Rattle.std.proofs.Common.{◌≡◌, drop}
use Rattle.jv_types.specs.declared.demands.Demand.TheVariants as demands
use Rattle.jv_types.specs.Tables.{program_in}
use Rattle.jv_types.specs.inner.Declaring.{broken_in_class}
use Rattle.jv_types.specs.inner.Kept.{typestate_in}
use Rattle.jv_types.specs.inner.Tabled.{class_in}
use Rattle.jv_rules.specs.inner.Deciding.{first_by}
use Rattle.jv_types.proofs.labels.labels_differ.Given as goal

abbrev pub invariant-loop-item : goal.invariant-loop-item
invariant-loop-item l =
    first_by (λ e. broken_in_class (program_in l.table) demands.OfLabels (typestate_in e) (class_in e)) (drop l.item-index l.entries)
    ≡ first_by (λ e. broken_in_class (program_in l.table) demands.OfLabels (typestate_in e) (class_in e)) l.entries
