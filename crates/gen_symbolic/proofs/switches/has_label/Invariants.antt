use Rattle.std.proofs.Common.{◌≡◌, drop}
use Rattle.jv_values.specs.Statements.{any_label}
use Rattle.gen_symbolic.specs.inner.Drafting.{wanted}
use Rattle.gen_symbolic.proofs.switches.has_label.Given as goal

abbrev pub invariant-loop-label : goal.invariant-loop-label
invariant-loop-label l = any_label (wanted l.position) (drop l.label-index l.labels) ≡ any_label (wanted l.position) l.labels
