use Rattle.std.proofs.Common.{◌≡◌, Some, false, drop, map}
use Rattle.jv_rules.specs.inner.Deciding.{is_case_of}
use Rattle.jv_types.specs.Tables.{program_in}
use Rattle.jv_types.specs.inner.View.{type_seen}
use Rattle.jv_types.specs.inner.Stating.{bad_case}
use Rattle.jv_types.proofs.switches.label_met.Given as goal

abbrev pub invariant-loop-label : goal.invariant-loop-label
invariant-loop-label l =
    bad_case (is_case_of (program_in l.table) (Some (type_seen l.ty))) l.met l.has_default (map (λ d. d.now) (drop l.label-index l.labels))
    ≡ bad_case (is_case_of (program_in l.table) (Some (type_seen l.ty))) l.initial.met false (map (λ d. d.now) l.labels)
