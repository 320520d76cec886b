use Rattle.cls_rows.proofs.Doing.{goes_doubles, no_double}
use Rattle.cls_rows.proofs.settling.double.Goals as goal

pub returns-in_default-clause-doubled : goal.returns-in_default-clause-doubled
returns-in_default-clause-doubled c = no_double c.args.stacks.now c.args.limit c.args.frame c.in_default.ensures

pub returns-clause-doubled : goal.returns-clause-doubled
returns-clause-doubled c = goes_doubles c.args.stacks.now c.settle_on.new.stacks c.args.limit c.args.frame _ c.in-Some.top.kind
    c.settle_on.result
    c.in-Some.ensures.1 c.settle_on.ensures.settled
