use Rattle.std.proofs.Common.{refl, arith}
use Rattle.cls_rows.proofs.Doing.{on_none, on_full, on_some}
use Rattle.cls_rows.proofs.settling.settle_on.Goals as goal

pub returns-in_default-clause-settled : goal.returns-in_default-clause-settled
returns-in_default-clause-settled c =
    on_none c.args.stacks.now c.args.limit c.args.below c.args.gives c.args.frame _ c.in_default.is refl refl c.requires.there
    c.requires.fits

pub returns-then-depth-limit-clause-settled : goal.returns-then-depth-limit-clause-settled
returns-then-depth-limit-clause-settled c =
    on_full c.args.stacks.now c.args.limit c.args.below c.args.gives c.in-Some.kind c.in-Some.is
    (omega (arith, c.depth.ensures, c.if-depth-limit.true))

pub returns-clause-settled : goal.returns-clause-settled
returns-clause-settled c =
    on_some c.args.stacks.now c.push.new.self c.args.limit c.args.below c.in_ok-operands.operands c.args.gives c.in-Some.kind
    c.args.frame _ c.in-Some.is refl
    refl c.in_ok-operands.ensures.there (omega (arith, c.depth.ensures, c.if-depth-limit.false)) c.in_ok-operands.ensures.made
