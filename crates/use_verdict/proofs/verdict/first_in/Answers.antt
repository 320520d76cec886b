use Rattle.std.proofs.Common.{sym, ◌∙◌}
use Rattle.use_verdict.proofs.Failing.{all_rest, passed_over, first_here, none_left}
use Rattle.use_verdict.proofs.verdict.first_in.Goals as goal

pub loop-context-init : goal.loop-context-init
loop-context-init c = all_rest c.args.core.now c.args.tables.now c.args.contexts.now c.requires.made c.requires.known

pub flow-requires : goal.flow-requires
flow-requires c = c.requires.made

pub loop-context-preserved : goal.loop-context-preserved
loop-context-preserved c =
    passed_over c.args.core.now c.args.tables.now c.args.contexts.now c.loop-context.context-index c.in_ok-met.met
    c.loop-context-test.true c.in_ok-met.ensures.flows
    (sym c.in_default.is ∙ c.first_failed.ensures) c.loop-context.invariant

pub returns : goal.returns
returns c = none_left c.args.core.now c.args.tables.now c.args.contexts.now c.loop-context.context-index c.loop-context-test.false
    c.loop-context.invariant

pub returns-in-Some : goal.returns-in-Some
returns-in-Some c =
    first_here c.args.core.now c.args.tables.now c.args.contexts.now c.loop-context.context-index c.in_ok-met.met c.in-Some.demand
    c.loop-context-test.true c.in_ok-met.ensures.flows
    (sym c.in-Some.is ∙ c.first_failed.ensures) c.loop-context.invariant
