use Rattle.std.proofs.Common.{rules, sym, ap}
use Rattle.std.specs.Prelude.{Ok, Some}
use Rattle.vm_model.specs.Actions.{Load, Store, Double, Swap, Increase, Go}
use Rattle.vm_actions.specs.Table.{sort_of, plain_of}
use Rattle.cls_rows.proofs.Plainly.{is_trade}
use Rattle.cls_rows.proofs.Coming.{comes_as, doubled_comes, swapped_comes, loaded_comes, stored_comes, increased_comes, gone_comes}
use Rattle.cls_rows.proofs.Rowing.{trade_comes}
use Rattle.cls_rows.proofs.rows.plain_row.Goals as goal

pub returns-in-Load-clause-comes : goal.returns-in-Load-clause-comes
returns-in-Load-clause-comes c =
    comes_as c.args.scene c.args.stacks.now c.load.new.stacks c.args.frame (plain_of c.args.plain)
    (Load (sort_of c.in-Load.sort) c.in-Load.local) c.load.result (ap plain_of (sym c.in-Load.is))
    (loaded_comes c.args.scene c.args.stacks.now c.load.new.stacks c.args.frame c.in-Load.sort c.in-Load.local c.load.result
    (search rules) c.load.ensures.loaded)

pub returns-in-Store-clause-comes : goal.returns-in-Store-clause-comes
returns-in-Store-clause-comes c =
    comes_as c.args.scene c.args.stacks.now c.args.stacks.now c.args.frame (plain_of c.args.plain)
    (Store (sort_of c.in-Store.sort) c.in-Store.local) c.store.result (ap plain_of (sym c.in-Store.is))
    (stored_comes c.args.scene c.args.stacks.now c.args.frame c.requires.fits c.in-Store.sort c.in-Store.local c.store.result
    (search rules) c.store.ensures)

pub returns-in-Double-clause-comes : goal.returns-in-Double-clause-comes
returns-in-Double-clause-comes c =
    comes_as c.args.scene c.args.stacks.now c.double.new.stacks c.args.frame (plain_of c.args.plain) Double c.double.result
    (ap plain_of (sym c.in-Double.is))
    (doubled_comes c.args.scene c.args.stacks.now c.double.new.stacks c.args.frame c.double.result c.double.ensures.doubled)

pub returns-in-Swap-clause-comes : goal.returns-in-Swap-clause-comes
returns-in-Swap-clause-comes c =
    comes_as c.args.scene c.args.stacks.now c.swap.new.stacks c.args.frame (plain_of c.args.plain) Swap c.swap.result
    (ap plain_of (sym c.in-Swap.is))
    (swapped_comes c.args.scene c.args.stacks.now c.swap.new.stacks c.args.frame c.swap.result c.requires.fits c.swap.ensures.swapped)

pub returns-in-Increase-clause-comes : goal.returns-in-Increase-clause-comes
returns-in-Increase-clause-comes c =
    comes_as c.args.scene c.args.stacks.now c.args.stacks.now c.args.frame (plain_of c.args.plain)
    (Increase c.in-Increase.local c.in-Increase.field-1.now)
    (Ok c.increase.result) (ap plain_of (sym c.in-Increase.is))
    (increased_comes c.args.scene c.args.stacks.now c.args.frame c.requires.fits c.in-Increase.local c.in-Increase.field-1.now
    c.increase.result c.requires.there
    (search rules) c.increase.ensures)

pub returns-in-Go-clause-comes : goal.returns-in-Go-clause-comes
returns-in-Go-clause-comes c =
    comes_as c.args.scene c.args.stacks.now c.args.stacks.now c.args.frame (plain_of c.args.plain) (Go c.in-Go.field-0)
    (Ok (Some c.args.frame))
    (ap plain_of (sym c.in-Go.is)) (gone_comes c.args.scene c.args.stacks.now c.args.frame c.requires.fits c.in-Go.field-0 c.requires.there)

pub returns-in_default-clause-comes : goal.returns-in_default-clause-comes
returns-in_default-clause-comes c = trade_comes c.args.scene c.args.stacks.now c.settle.new.stacks c.args.frame c.args.plain _ _
    c.settle.result (sym c.plain_trade-trade.ensures.takes) (sym c.plain_trade-trade.ensures.gives)
    (is_trade c.args.plain c.in_default.not-Load c.in_default.not-Store c.in_default.not-Double c.in_default.not-Swap
    c.in_default.not-Increase c.in_default.not-Go) c.settle.ensures.settled
