use Rattle.cls_kinds.specs.Stacks.{stack_at}
use Rattle.cls_rows.proofs.Doing.{goes_swaps, no_swap, one_swap, lower_fits, grows_then}
use Rattle.cls_rows.proofs.settling.swap.Goals as goal

pub returns-in_default-clause-swapped : goal.returns-in_default-clause-swapped
returns-in_default-clause-swapped c = no_swap c.args.stacks.now c.args.frame c.in_default.ensures

pub returns-in_default-top-clause-swapped : goal.returns-in_default-top-clause-swapped
returns-in_default-top-clause-swapped c = one_swap c.args.stacks.now c.args.frame _ c.in-Some.first.kind c.in-Some.ensures.1
    c.in_default-top.ensures

pub settle_on-requires-clause-fits : goal.settle_on-requires-clause-fits
settle_on-requires-clause-fits c = lower_fits (stack_at c.args.stacks.now c.args.frame.operands) _ _
    (stack_at c.push.new.self c.in_ok-lower.lower)
    c.in-Some.first.kind c.in-Some-top.second.kind c.args.limit c.in-Some.ensures.1 c.in-Some-top.ensures.1
    c.in_ok-lower.ensures.made c.requires.fits

pub returns-clause-grows : goal.returns-clause-grows
returns-clause-grows c = grows_then c.settle_on.result c.args.stacks.now c.push.new.self c.settle_on.new.stacks c.in_ok-lower.ensures.grows
    c.settle_on.ensures.grows

pub returns-clause-swapped : goal.returns-clause-swapped
returns-clause-swapped c = goes_swaps c.args.stacks.now c.push.new.self c.settle_on.new.stacks c.args.limit c.args.frame _ _
    c.in-Some.first.kind c.in-Some-top.second.kind c.in_ok-lower.lower c.settle_on.result c.in-Some.ensures.1 c.in-Some-top.ensures.1
    c.in_ok-lower.ensures.made
    c.requires.fits c.settle_on.ensures.settled
