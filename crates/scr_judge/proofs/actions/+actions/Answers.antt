-- By `grind` at once, since a search finds nothing here.
use Rattle.std.proofs.Common.{arith}
use Rattle.scr_judge.proofs.Collecting.{all_steps, alone, in_steps}
use Rattle.scr_judge.proofs.actions.+actions.Goals as goal

pub collect_all-loop-statement-preserved : goal.collect_all-loop-statement-preserved
collect_all-loop-statement-preserved t c = grind (arith, all_steps)

pub collect_all-returns-clause-actions : goal.collect_all-returns-clause-actions
collect_all-returns-clause-actions t c = grind (arith, all_steps)

pub collect_all-returns-clause-next : goal.collect_all-returns-clause-next
collect_all-returns-clause-next t c = grind (arith, all_steps)

pub collect_at-returns-in-Continue-clause-actions : goal.collect_at-returns-in-Continue-clause-actions
collect_at-returns-in-Continue-clause-actions t c = grind (arith, alone)

pub collect_at-returns-in-Continue-clause-next : goal.collect_at-returns-in-Continue-clause-next
collect_at-returns-in-Continue-clause-next t c = grind (arith, alone)

pub collect_at-returns-in-Do-clause-actions : goal.collect_at-returns-in-Do-clause-actions
collect_at-returns-in-Do-clause-actions t c = grind (arith, alone)

pub collect_at-returns-in-Do-clause-next : goal.collect_at-returns-in-Do-clause-next
collect_at-returns-in-Do-clause-next t c = grind (arith, alone)

pub collect_at-returns-in-Rec-clause-actions : goal.collect_at-returns-in-Rec-clause-actions
collect_at-returns-in-Rec-clause-actions t c = grind (arith, alone)

pub collect_at-returns-in-Rec-clause-next : goal.collect_at-returns-in-Rec-clause-next
collect_at-returns-in-Rec-clause-next t c = grind (arith, alone)

pub collect_at-returns-in_ok-next-in-Choice-clause-actions : goal.collect_at-returns-in_ok-next-in-Choice-clause-actions
collect_at-returns-in_ok-next-in-Choice-clause-actions t c = grind (arith, alone)

pub collect_at-returns-in_ok-next-in-Choice-clause-next : goal.collect_at-returns-in_ok-next-in-Choice-clause-next
collect_at-returns-in_ok-next-in-Choice-clause-next t c = grind (arith, alone)

pub collect_at-returns-in_ok-push-in-Message-clause-actions : goal.collect_at-returns-in_ok-push-in-Message-clause-actions
collect_at-returns-in_ok-push-in-Message-clause-actions t c = grind (arith, alone)

pub collect_at-returns-in_ok-push-in-Message-clause-next : goal.collect_at-returns-in_ok-push-in-Message-clause-next
collect_at-returns-in_ok-push-in-Message-clause-next t c = grind (arith, alone)

pub collect_at-returns-then-eq-clause-actions : goal.collect_at-returns-then-eq-clause-actions
collect_at-returns-then-eq-clause-actions t c = grind (arith, alone)

pub collect_at-returns-then-eq-clause-next : goal.collect_at-returns-then-eq-clause-next
collect_at-returns-then-eq-clause-next t c = grind (arith, alone)

pub collect_in-loop-branch-preserved : goal.collect_in-loop-branch-preserved
collect_in-loop-branch-preserved t c = grind (arith, in_steps)

pub collect_in-returns-clause-actions : goal.collect_in-returns-clause-actions
collect_in-returns-clause-actions t c = grind (arith, in_steps)

pub collect_in-returns-clause-next : goal.collect_in-returns-clause-next
collect_in-returns-clause-next t c = grind (arith, in_steps)
