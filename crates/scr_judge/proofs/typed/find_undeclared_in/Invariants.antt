use Rattle.std.proofs.Common.{◌≡◌, drop}
use Rattle.std.specs.HashSet.{contains_text}
use Rattle.scr_judge.specs.inner.Listed.{first_among, undeclared}
use Rattle.scr_judge.proofs.typed.find_undeclared_in.Given as goal

abbrev pub invariant-loop-name : goal.invariant-loop-name
invariant-loop-name l = first_among (undeclared (contains_text l.aliases) l.place) l.types ≡ first_among
    (undeclared (contains_text l.aliases) l.place) (drop l.name-index l.types)
