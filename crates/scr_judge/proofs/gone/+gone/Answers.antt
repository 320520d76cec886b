-- By `grind` at once, since a search finds nothing here.
use Rattle.std.proofs.Common.{arith}
use Rattle.scr_judge.proofs.Leaving.{all_steps, alone, in_steps}
use Rattle.scr_judge.proofs.gone.+gone.Goals as goal

pub gone_all-loop-statement-preserved : goal.gone_all-loop-statement-preserved
gone_all-loop-statement-preserved t c = grind (arith, all_steps)

pub gone_all-returns-clause-names : goal.gone_all-returns-clause-names
gone_all-returns-clause-names t c = grind (arith, all_steps)

pub gone_all-returns-clause-passes : goal.gone_all-returns-clause-passes
gone_all-returns-clause-passes t c = grind (arith, all_steps)

pub gone_at-returns-else-at_once-clause-names : goal.gone_at-returns-else-at_once-clause-names
gone_at-returns-else-at_once-clause-names t c = grind (arith, alone)

pub gone_at-returns-else-at_once-clause-passes : goal.gone_at-returns-else-at_once-clause-passes
gone_at-returns-else-at_once-clause-passes t c = grind (arith, alone)

pub gone_at-returns-in-Choice-clause-names : goal.gone_at-returns-in-Choice-clause-names
gone_at-returns-in-Choice-clause-names t c = grind (arith, alone)

pub gone_at-returns-in-Choice-clause-passes : goal.gone_at-returns-in-Choice-clause-passes
gone_at-returns-in-Choice-clause-passes t c = grind (arith, alone)

pub gone_at-returns-in-Continue-clause-names : goal.gone_at-returns-in-Continue-clause-names
gone_at-returns-in-Continue-clause-names t c = grind (arith, alone)

pub gone_at-returns-in-Continue-clause-passes : goal.gone_at-returns-in-Continue-clause-passes
gone_at-returns-in-Continue-clause-passes t c = grind (arith, alone)

pub gone_at-returns-in-Message-clause-names : goal.gone_at-returns-in-Message-clause-names
gone_at-returns-in-Message-clause-names t c = grind (arith, alone)

pub gone_at-returns-in-Message-clause-passes : goal.gone_at-returns-in-Message-clause-passes
gone_at-returns-in-Message-clause-passes t c = grind (arith, alone)

pub gone_at-returns-in-Rec-clause-names : goal.gone_at-returns-in-Rec-clause-names
gone_at-returns-in-Rec-clause-names t c = grind (arith, alone)

pub gone_at-returns-in-Rec-clause-passes : goal.gone_at-returns-in-Rec-clause-passes
gone_at-returns-in-Rec-clause-passes t c = grind (arith, alone)

pub gone_at-returns-in_ok-push-in-Do-clause-names : goal.gone_at-returns-in_ok-push-in-Do-clause-names
gone_at-returns-in_ok-push-in-Do-clause-names t c = grind (arith, alone)

pub gone_at-returns-in_ok-push-in-Do-clause-passes : goal.gone_at-returns-in_ok-push-in-Do-clause-passes
gone_at-returns-in_ok-push-in-Do-clause-passes t c = grind (arith, alone)

pub gone_in-loop-branch-preserved : goal.gone_in-loop-branch-preserved
gone_in-loop-branch-preserved t c = grind (arith, in_steps)

pub gone_in-returns-clause-names : goal.gone_in-returns-clause-names
gone_in-returns-clause-names t c = grind (arith, in_steps)

pub gone_in-returns-clause-passes : goal.gone_in-returns-clause-passes
gone_in-returns-clause-passes t c = grind (arith, in_steps)
