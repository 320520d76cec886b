use Rattle.std.proofs.Common.{◌≡◌, drop}
use Rattle.jv_types.specs.inner.Repeating.{repeat_constant}
use Rattle.jv_types.proofs.repeats.constant_met.Given as goal

abbrev pub invariant-loop-constant : goal.invariant-loop-constant
invariant-loop-constant l = repeat_constant l.place l.met (drop l.constant-index l.constants) ≡ repeat_constant l.place l.initial.met
    l.constants
