use Rattle.std.proofs.Common.{◌≡◌, drop}
use Rattle.jv_types.specs.Tables.{program_in}
use Rattle.jv_types.specs.inner.Declaring.{broken_names}
use Rattle.jv_types.specs.inner.Offering.{offers_seen}
use Rattle.jv_types.specs.inner.Tabled.{class_in}
use Rattle.jv_types.proofs.demands.note_broken.Given as goal

abbrev pub invariant-loop-item : goal.invariant-loop-item
invariant-loop-item l =
    broken_names (program_in l.table) l.demand (class_in l.entry) l.met (offers_seen (drop l.item-index l.methods))
    ≡ broken_names (program_in l.table) l.demand (class_in l.entry) l.initial.met (offers_seen l.methods)
