use Rattle.std.proofs.Common.{◌≡◌, take, map}
use Rattle.gen_expressions.specs.Aimed.{place_of}
use Rattle.gen_symbolic.proofs.aimed.places_of.Given as goal

abbrev pub invariant-loop-label : goal.invariant-loop-label
invariant-loop-label l = l.places.items ≡ map (place_of l.labels) (take l.label-index l.of)
