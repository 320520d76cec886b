use Rattle.std.proofs.Common.{◌≡◌, drop}
use Rattle.use_flow.specs.inner.Switching.{noted}
use Rattle.use_flow.proofs.switches.note_labels.Given as goal

abbrev pub invariant-loop-label : goal.invariant-loop-label
invariant-loop-label l = noted (drop l.label-index l.given) l.labels ≡ noted l.given l.initial.labels
