use Rattle.std.proofs.Common.{◌≡◌, drop}
use Rattle.jv_types.specs.inner.Declaring.{missing_method}
use Rattle.jv_types.specs.inner.Offering.{offers_seen}
use Rattle.jv_types.specs.inner.Tabled.{class_in}
use Rattle.jv_rules.specs.inner.Deciding.{first_by}
use Rattle.jv_types.proofs.demands.missing_in.Given as goal

abbrev pub invariant-loop-item : goal.invariant-loop-item
invariant-loop-item l =
    first_by (missing_method (class_in l.entry)) (offers_seen (drop l.item-index l.methods)) ≡ first_by (missing_method (class_in l.entry))
    (offers_seen l.methods)
