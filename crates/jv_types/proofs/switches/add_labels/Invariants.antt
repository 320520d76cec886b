use Rattle.std.proofs.Common.{◌≡◌, ◌++◌, take, map}
use Rattle.jv_types.proofs.switches.add_labels.Given as goal

abbrev pub invariant-loop-label : goal.invariant-loop-label
invariant-loop-label l = map (λ d. d.now) l.all.items ≡ map (λ d. d.now) l.initial.all.items ++ take l.label-index l.labels
