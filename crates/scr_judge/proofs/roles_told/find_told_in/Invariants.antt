use Rattle.std.proofs.Common.{◌≡◌, drop}
use Rattle.scr_judge.specs.inner.Gone.{roles_differ}
use Rattle.scr_judge.specs.inner.Listed.{first_among}
use Rattle.scr_judge.proofs.roles_told.find_told_in.Given as goal

abbrev pub invariant-loop-part : goal.invariant-loop-part
invariant-loop-part l = first_among (roles_differ l.first) l.parts ≡ first_among (roles_differ l.first) (drop l.part-index l.parts)
