-- By `grind` at once, since a search finds nothing here.
use Rattle.std.proofs.Common.{arith}
use Rattle.scr_judge.proofs.LabelSteps.{same_alone, same_in_steps, same_steps}
use Rattle.scr_judge.proofs.labels.+labels.Goals as goal

pub same_all-loop-statement-preserved : goal.same_all-loop-statement-preserved
same_all-loop-statement-preserved t c = grind (arith, same_steps)

pub same_all-returns-in-Some : goal.same_all-returns-in-Some
same_all-returns-in-Some t c = grind (arith, same_steps)

pub same_at-returns-in-Continue : goal.same_at-returns-in-Continue
same_at-returns-in-Continue t c = grind (arith, same_alone)

pub same_at-returns-in-Do : goal.same_at-returns-in-Do
same_at-returns-in-Do t c = grind (arith, same_alone)

pub same_at-returns-in-Message : goal.same_at-returns-in-Message
same_at-returns-in-Message t c = grind (arith, same_alone)

pub same_in-loop-branch-preserved : goal.same_in-loop-branch-preserved
same_in-loop-branch-preserved t c = grind (arith, same_in_steps)

pub same_in-returns : goal.same_in-returns
same_in-returns t c = grind (arith, same_in_steps)

pub same_in-returns-in-Some-2 : goal.same_in-returns-in-Some-2
same_in-returns-in-Some-2 t c = grind (arith, same_in_steps)

pub same_in-returns-then-not-branch : goal.same_in-returns-then-not-branch
same_in-returns-then-not-branch t c = grind (arith, same_in_steps)
