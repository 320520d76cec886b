use Rattle.std.proofs.Common.{◌≡◌, drop}
use Rattle.scr_judge.specs.inner.Gone.{arguments_differ}
use Rattle.scr_judge.specs.inner.Listed.{first_among}
use Rattle.scr_judge.proofs.roles_told.find_given.Given as goal

abbrev pub invariant-loop-arguments : goal.invariant-loop-arguments
invariant-loop-arguments l = first_among (arguments_differ l.first) l.given ≡ first_among (arguments_differ l.first)
    (drop l.arguments-index l.given)
