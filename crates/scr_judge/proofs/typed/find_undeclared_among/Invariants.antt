use Rattle.std.proofs.Common.{◌≡◌, drop}
use Rattle.std.specs.HashSet.{contains_text}
use Rattle.scr_judge.specs.inner.Listed.{first_among, undeclared_by}
use Rattle.scr_judge.proofs.typed.find_undeclared_among.Given as goal

abbrev pub invariant-loop-part : goal.invariant-loop-part
invariant-loop-part l = first_among (undeclared_by (contains_text l.aliases)) l.parts
    ≡ first_among (undeclared_by (contains_text l.aliases)) (drop l.part-index l.parts)
