use Rattle.scr_tree.specs.Written.{part_written}
use Rattle.scr_judge.specs.inner.Own.{OfOwn}
use Rattle.scr_judge.proofs.Owned.{Rest}
use Rattle.scr_judge.proofs.own.find_own_in.Given as goal

abbrev pub invariant-loop-part : goal.invariant-loop-part
invariant-loop-part l = Rest (λ p. OfOwn l.condition (part_written p)) l.parts l.part-index
