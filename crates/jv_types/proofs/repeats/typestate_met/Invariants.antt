use Rattle.std.proofs.Common.{◌≡◌, length}
use Rattle.jv_types.specs.inner.Repeating.{repeat_typestate}
use Rattle.jv_types.proofs.repeats.typestate_met.Given as goal

abbrev pub invariant-typestates : goal.invariant-typestates
invariant-typestates l = repeat_typestate l.met l.rest l.files ≡ repeat_typestate l.initial.met l.typestates l.origins

abbrev pub decreases-typestates : goal.decreases-typestates
decreases-typestates l = length l.rest
