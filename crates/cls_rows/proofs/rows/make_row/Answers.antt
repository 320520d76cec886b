use Rattle.std.proofs.Common.{sym}
use Rattle.vm_model.specs.Actions.{Make}
use Rattle.cls_rows.proofs.Belonging.{class_none, make_comes}
use Rattle.cls_rows.proofs.rows.make_row.Goals as goal

pub returns-in_default-clause-comes : goal.returns-in_default-clause-comes
returns-in_default-clause-comes c = class_none c.args.scene c.args.stacks.now c.args.frame (Make c.args.class) c.args.class
    (sym c.in_default.ensures) (λ p n. n)

pub returns-clause-comes : goal.returns-clause-comes
returns-clause-comes c = make_comes c.args.scene c.args.stacks.now c.settle.new.stacks c.args.frame c.args.class c.in-Some.kept.now
    c.settle.result
    (sym c.in-Some.ensures) c.settle.ensures.settled
