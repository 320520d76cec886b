use Rattle.std.proofs.Common.{sym, ◌∙◌}
use Rattle.scr_judge.proofs.Starting.{passed_neither, met_deed, met_do}
use Rattle.scr_judge.proofs.opening.+firsts.Goals as goal

pub first_of-returns-in-Deed : goal.first_of-returns-in-Deed
first_of-returns-in-Deed t c =
    met_deed c.args.body.now c.loop-statement.statement-index c.statement-item.result c.loop-statement-test.true c.statement-item.is
    c.first_at-first.result c.first_at-first.ensures c.in-Deed.is
    ∙ sym c.loop-statement.invariant

pub first_of-returns-in-Goes : goal.first_of-returns-in-Goes
first_of-returns-in-Goes t c =
    met_do c.args.body.now c.loop-statement.statement-index c.statement-item.result c.loop-statement-test.true c.statement-item.is
    c.first_at-first.result c.first_at-first.ensures _ c.in-Goes.is
    ∙ sym c.loop-statement.invariant

pub first_of-loop-statement-preserved : goal.first_of-loop-statement-preserved
first_of-loop-statement-preserved t c =
    c.loop-statement.invariant
    ∙ passed_neither c.args.body.now c.loop-statement.statement-index c.statement-item.result c.loop-statement-test.true c.statement-item.is
    c.first_at-first.result c.first_at-first.ensures c.in-Neither.is
