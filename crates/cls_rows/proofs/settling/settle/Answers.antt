use Rattle.std.specs.Prelude.{option_to_list}
use Rattle.cls_kinds.specs.Stacks.{stack_at}
use Rattle.cls_rows.proofs.Doing.{taken_fits, went_settle, not_settled}
use Rattle.cls_rows.proofs.settling.settle.Goals as goal

pub returns-in_default-clause-settled : goal.returns-in_default-clause-settled
returns-in_default-clause-settled c =
    not_settled c.args.stacks.now c.args.limit c.args.wants.now (option_to_list c.args.gives) c.args.frame
    c.in_default.ensures.refused

pub settle_on-requires-clause-fits : goal.settle_on-requires-clause-fits
settle_on-requires-clause-fits c = taken_fits c.args.wants.now (stack_at c.args.stacks.now c.args.frame.operands)
    (stack_at c.args.stacks.now c.in-Some.below)
    c.args.limit c.in-Some.ensures.taken c.requires.fits

pub returns-clause-settled : goal.returns-clause-settled
returns-clause-settled c = went_settle c.args.stacks.now c.settle_on.new.stacks c.args.limit c.args.wants.now
    (option_to_list c.args.gives) c.args.frame
    c.in-Some.below c.settle_on.result c.in-Some.ensures.taken c.settle_on.ensures.settled
