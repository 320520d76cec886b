-- By `grind` at once, since a search finds nothing here.
use Rattle.std.proofs.Common.{arith}
use Rattle.scr_judge.proofs.SpotSteps.{all_steps, alone}
use Rattle.std.proofs.lemmas.Grind.{common_steps}
use Rattle.scr_judge.proofs.on_spot.+on_spot.Goals as goal

pub find_all-loop-statement-preserved : goal.find_all-loop-statement-preserved
find_all-loop-statement-preserved t c = grind (arith, all_steps)

pub find_all-returns : goal.find_all-returns
find_all-returns t c = grind (arith, all_steps)

pub find_all-returns-in-Some : goal.find_all-returns-in-Some
find_all-returns-in-Some t c = grind (arith, all_steps)

pub find_at-returns-in-Choice : goal.find_at-returns-in-Choice
find_at-returns-in-Choice t c = grind (arith, alone)

pub find_at-returns-in-Continue : goal.find_at-returns-in-Continue
find_at-returns-in-Continue t c = grind (arith, alone)

pub find_at-returns-in-Do : goal.find_at-returns-in-Do
find_at-returns-in-Do t c = grind (arith, alone)

pub find_at-returns-in-Message : goal.find_at-returns-in-Message
find_at-returns-in-Message t c = grind (arith, alone)

pub find_at-returns-in-Rec : goal.find_at-returns-in-Rec
find_at-returns-in-Rec t c = grind (arith, alone)

pub find_in-loop-branch-preserved : goal.find_in-loop-branch-preserved
find_in-loop-branch-preserved t c = grind (arith, common_steps)

pub find_in-returns-in-Some : goal.find_in-returns-in-Some
find_in-returns-in-Some t c = grind (arith, common_steps)
