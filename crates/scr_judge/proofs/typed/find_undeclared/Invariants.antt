use Rattle.std.proofs.Common.{◌≡◌, drop}
use Rattle.std.specs.HashSet.{contains_text}
use Rattle.scr_judge.specs.inner.Listed.{first_among, undeclared_in}
use Rattle.scr_judge.proofs.typed.find_undeclared.Given as goal

abbrev pub invariant-loop-message : goal.invariant-loop-message
invariant-loop-message l = first_among (undeclared_in (contains_text l.aliases)) l.carries ≡ first_among
    (undeclared_in (contains_text l.aliases)) (drop l.message-index l.carries)
