use Rattle.std.proofs.Common.{sym, ap}
use Rattle.vm_model.specs.Actions.{Use}
use Rattle.vm_actions.specs.Table.{action_of}
use Rattle.cls_rows.proofs.Coming.{comes_as}
use Rattle.cls_rows.proofs.Rowing.{built_comes}
use Rattle.cls_rows.proofs.rows.row.Goals as goal

pub returns-in-Use-clause-comes : goal.returns-in-Use-clause-comes
returns-in-Use-clause-comes c =
    comes_as c.args.scene c.args.stacks.now c.settle.new.stacks c.args.frame (action_of c.args.action) (Use c.in-Use.built)
    c.settle.result (ap action_of (sym c.in-Use.is))
    (built_comes c.args.scene c.args.stacks.now c.settle.new.stacks c.args.frame c.in-Use.built _ _ c.settle.result
    (sym c.built_trade-trade.ensures.takes) (sym c.built_trade-trade.ensures.gives) c.settle.ensures.settled)
