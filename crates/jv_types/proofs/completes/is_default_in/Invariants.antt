use Rattle.std.proofs.Common.{◌≡◌, drop}
use Rattle.std.specs.List.{list_any}
use Rattle.jv_rules.specs.inner.Leaving.{is_default}
use Rattle.jv_types.proofs.completes.is_default_in.Given as goal

abbrev pub invariant-loop-label : goal.invariant-loop-label
invariant-loop-label l = list_any is_default (drop l.label-index l.labels) ≡ list_any is_default l.labels
