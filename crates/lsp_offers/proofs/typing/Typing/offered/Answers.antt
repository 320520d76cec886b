use Rattle.lsp_offers.proofs.Trying.{tried, passed, none_left}
use Rattle.lsp_offers.proofs.typing.Typing.offered.Goals as goal

pub returns-in-Some : goal.returns-in-Some
returns-in-Some c =
    c.loop-attempt.invariant c.in-Some.items.items
    (tried c.args.self.now c.args.attempts.now c.loop-attempt.attempt-index c.attempt-item.result c.loop-attempt-test.true
    c.attempt-item.is c.in_ok-found.found c.in_ok-found.ensures c.in-Some.items c.in-Some.is)

pub loop-attempt-preserved : goal.loop-attempt-preserved
loop-attempt-preserved c = λ items rest.
    c.loop-attempt.invariant items
    (passed c.args.self.now c.args.attempts.now c.loop-attempt.attempt-index c.attempt-item.result c.loop-attempt-test.true
    c.attempt-item.is c.in_ok-found.found c.in_ok-found.ensures c.in_default.is items rest)

pub returns : goal.returns
returns c =
    c.loop-attempt.invariant c.new.result.items
    (none_left c.args.self.now c.args.attempts.now c.loop-attempt.attempt-index c.new.result.items c.loop-attempt-test.false
    c.new.ensures.items)
