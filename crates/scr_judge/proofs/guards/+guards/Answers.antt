-- By `grind` at once, since a search finds nothing here.
use Rattle.std.proofs.Common.{arith}
use Rattle.scr_judge.proofs.Walks.{all_steps, fronts, in_steps}
use Rattle.scr_judge.proofs.guards.+guards.Goals as goal

pub unguarded_all-loop-statement-preserved : goal.unguarded_all-loop-statement-preserved
unguarded_all-loop-statement-preserved t c = grind (arith, all_steps)

pub unguarded_all-returns-clause-first : goal.unguarded_all-returns-clause-first
unguarded_all-returns-clause-first t c = grind (arith, all_steps)

pub unguarded_all-returns-clause-passes : goal.unguarded_all-returns-clause-passes
unguarded_all-returns-clause-passes t c = grind (arith, all_steps)

pub unguarded_all-returns-in_err-passes-clause-first : goal.unguarded_all-returns-in_err-passes-clause-first
unguarded_all-returns-in_err-passes-clause-first t c = grind (arith, all_steps)

pub unguarded_at-returns-else-is_among-clause-first : goal.unguarded_at-returns-else-is_among-clause-first
unguarded_at-returns-else-is_among-clause-first t c = grind (arith, fronts)

pub unguarded_at-returns-else-is_among-clause-passes : goal.unguarded_at-returns-else-is_among-clause-passes
unguarded_at-returns-else-is_among-clause-passes t c = grind (arith, fronts)

pub unguarded_at-returns-else-is_goal-clause-first : goal.unguarded_at-returns-else-is_goal-clause-first
unguarded_at-returns-else-is_goal-clause-first t c = grind (arith, fronts)

pub unguarded_at-returns-else-is_goal-clause-passes : goal.unguarded_at-returns-else-is_goal-clause-passes
unguarded_at-returns-else-is_goal-clause-passes t c = grind (arith, fronts)

pub unguarded_at-returns-in-Choice-clause-first : goal.unguarded_at-returns-in-Choice-clause-first
unguarded_at-returns-in-Choice-clause-first t c = grind (arith, fronts)

pub unguarded_at-returns-in-Choice-clause-passes : goal.unguarded_at-returns-in-Choice-clause-passes
unguarded_at-returns-in-Choice-clause-passes t c = grind (arith, fronts)

pub unguarded_at-returns-in-Message-clause-first : goal.unguarded_at-returns-in-Message-clause-first
unguarded_at-returns-in-Message-clause-first t c = grind (arith, fronts)

pub unguarded_at-returns-in-Message-clause-passes : goal.unguarded_at-returns-in-Message-clause-passes
unguarded_at-returns-in-Message-clause-passes t c = grind (arith, fronts)

pub unguarded_at-returns-in-Rec-clause-first : goal.unguarded_at-returns-in-Rec-clause-first
unguarded_at-returns-in-Rec-clause-first t c = grind (arith, fronts)

pub unguarded_at-returns-in-Rec-clause-passes : goal.unguarded_at-returns-in-Rec-clause-passes
unguarded_at-returns-in-Rec-clause-passes t c = grind (arith, fronts)

pub unguarded_at-returns-then-is_among-clause-first : goal.unguarded_at-returns-then-is_among-clause-first
unguarded_at-returns-then-is_among-clause-first t c = grind (arith, fronts)

pub unguarded_at-returns-then-is_goal-clause-first : goal.unguarded_at-returns-then-is_goal-clause-first
unguarded_at-returns-then-is_goal-clause-first t c = grind (arith, fronts)

pub unguarded_in-loop-branch-preserved : goal.unguarded_in-loop-branch-preserved
unguarded_in-loop-branch-preserved t c = grind (arith, in_steps)

pub unguarded_in-returns-clause-first : goal.unguarded_in-returns-clause-first
unguarded_in-returns-clause-first t c = grind (arith, in_steps)

pub unguarded_in-returns-clause-passes : goal.unguarded_in-returns-clause-passes
unguarded_in-returns-clause-passes t c = grind (arith, in_steps)

pub unguarded_in-returns-in_err-passes-clause-first : goal.unguarded_in-returns-in_err-passes-clause-first
unguarded_in-returns-in_err-passes-clause-first t c = grind (arith, in_steps)
