use Rattle.std.proofs.Common.{sym, ap, Some, None}
use Rattle.std.specs.Prelude.{Ok, option_map}
use Rattle.vm_model.specs.Actions.{Return}
use Rattle.vm_actions.specs.Table.{sort_of}
use Rattle.cls_rows.proofs.Coming.{comes_as}
use Rattle.cls_rows.proofs.Belonging.{nothing_returned, something_returned}
use Rattle.cls_rows.proofs.rows.return_row.Goals as goal

pub returns-in-None-None-clause-comes : goal.returns-in-None-None-clause-comes
returns-in-None-None-clause-comes c =
    comes_as c.args.scene c.args.stacks.now c.args.stacks.now c.args.frame (Return (option_map sort_of c.args.sort)) (Return None)
    (Ok (Some c.args.frame))
    (ap (λ s. Return (option_map sort_of s)) (sym c.in-None-None.is-0))
    (nothing_returned c.args.scene c.args.stacks.now c.args.frame c.in-None-None.is-1 c.requires.there c.requires.fits)

pub returns-in-Some-Some-clause-comes : goal.returns-in-Some-Some-clause-comes
returns-in-Some-Some-clause-comes c =
    comes_as c.args.scene c.args.stacks.now c.settle.new.stacks c.args.frame (Return (option_map sort_of c.args.sort))
    (Return (Some (sort_of c.in-Some-Some.sort)))
    c.settle.result (ap (λ s. Return (option_map sort_of s)) (sym c.in-Some-Some.is-0))
    (something_returned c.args.scene c.args.stacks.now c.settle.new.stacks c.args.frame c.in-Some-Some.sort c.in-Some-Some.kind
    c.settle.result
    c.in-Some-Some.is-1 c.settle.ensures.settled)
