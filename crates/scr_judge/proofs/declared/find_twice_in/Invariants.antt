use Rattle.mg_read.specs.First.{Judged, with_earlier}
use Rattle.scr_tree.specs.declared.written.WrittenPart.{WrittenPart as Part}
use Rattle.scr_judge.specs.inner.Listed.{ListedTwice}
use Rattle.scr_judge.proofs.Owned.{Rest}
use Rattle.scr_judge.proofs.declared.find_twice_in.Given as goal

abbrev pub invariant-loop-part : goal.invariant-loop-part
invariant-loop-part l = Rest (λ (p : Part). Judged ListedTwice (with_earlier p.roles.items)) l.parts l.part-index
