-- By `grind` at once, since a search finds nothing here.
use Rattle.std.proofs.Common.{arith}
use Rattle.stm_api.proofs.Collecting.{all_steps, alone, in_steps}
use Rattle.stm_api.proofs.doings.+doings.Goals as goal

pub collect_all-loop-statement-preserved : goal.collect_all-loop-statement-preserved
collect_all-loop-statement-preserved t c = grind (arith, all_steps)

pub collect_all-returns-clause-doings : goal.collect_all-returns-clause-doings
collect_all-returns-clause-doings t c = grind (arith, all_steps)

pub collect_all-returns-clause-next : goal.collect_all-returns-clause-next
collect_all-returns-clause-next t c = grind (arith, all_steps)

pub collect_at-returns-in-Continue-clause-doings : goal.collect_at-returns-in-Continue-clause-doings
collect_at-returns-in-Continue-clause-doings t c = grind (arith, alone)

pub collect_at-returns-in-Continue-clause-next : goal.collect_at-returns-in-Continue-clause-next
collect_at-returns-in-Continue-clause-next t c = grind (arith, alone)

pub collect_at-returns-in-Do-clause-doings : goal.collect_at-returns-in-Do-clause-doings
collect_at-returns-in-Do-clause-doings t c = grind (arith, alone)

pub collect_at-returns-in-Do-clause-next : goal.collect_at-returns-in-Do-clause-next
collect_at-returns-in-Do-clause-next t c = grind (arith, alone)

pub collect_at-returns-in-Rec-clause-doings : goal.collect_at-returns-in-Rec-clause-doings
collect_at-returns-in-Rec-clause-doings t c = grind (arith, alone)

pub collect_at-returns-in-Rec-clause-next : goal.collect_at-returns-in-Rec-clause-next
collect_at-returns-in-Rec-clause-next t c = grind (arith, alone)

pub collect_at-returns-in-Some-clause-doings : goal.collect_at-returns-in-Some-clause-doings
collect_at-returns-in-Some-clause-doings t c = grind (arith, alone)

pub collect_at-returns-in-Some-clause-next : goal.collect_at-returns-in-Some-clause-next
collect_at-returns-in-Some-clause-next t c = grind (arith, alone)

pub collect_at-returns-in_ok-push-in-Message-clause-doings : goal.collect_at-returns-in_ok-push-in-Message-clause-doings
collect_at-returns-in_ok-push-in-Message-clause-doings t c = grind (arith, alone)

pub collect_at-returns-in_ok-push-in-Message-clause-next : goal.collect_at-returns-in_ok-push-in-Message-clause-next
collect_at-returns-in_ok-push-in-Message-clause-next t c = grind (arith, alone)

pub collect_at-returns-then-eq-clause-doings : goal.collect_at-returns-then-eq-clause-doings
collect_at-returns-then-eq-clause-doings t c = grind (arith, alone)

pub collect_at-returns-then-eq-clause-next : goal.collect_at-returns-then-eq-clause-next
collect_at-returns-then-eq-clause-next t c = grind (arith, alone)

pub collect_in-loop-branch-preserved : goal.collect_in-loop-branch-preserved
collect_in-loop-branch-preserved t c = grind (arith, in_steps)

pub collect_in-returns-clause-doings : goal.collect_in-returns-clause-doings
collect_in-returns-clause-doings t c = grind (arith, in_steps)

pub collect_in-returns-clause-next : goal.collect_in-returns-clause-next
collect_in-returns-clause-next t c = grind (arith, in_steps)
