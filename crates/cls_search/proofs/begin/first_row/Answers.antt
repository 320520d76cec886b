use Rattle.std.proofs.Common.{get_or, if◌then◌else◌, [], ap, ◌∙◌, arith}
use Rattle.vm_model.specs.View.{method_of}
use Rattle.cls_search.specs.Beginning.{any_number}
use Rattle.cls_search.proofs.Searched.{row_more, row_all}
use Rattle.cls_search.proofs.begin.first_row.Goals as goal

pub loop-local-preserved : goal.loop-local-preserved
loop-local-preserved c =
    c.in_ok-push.ensures.items
    ∙ row_more (method_of c.args.method.now) c.args.arguments.now c.loop-local.row.items c.loop-local.local c.first_kind.result
    c.loop-local.invariant
    c.requires (omega (arith, c.loop-local-test.true, c.min-count.ensures, c.from.ensures))
    (c.first_kind.ensures ∙ ap (λ b. get_or (if b then [] else c.args.arguments.now) c.loop-local.local any_number)
    c.is_main-is_main.ensures)

pub returns : goal.returns
returns c =
    row_all (method_of c.args.method.now) c.args.arguments.now c.loop-local.row.items c.loop-local.local c.requires
    (omega (arith, c.loop-local-test.false, c.loop-local.auto.local-end, c.min-count.ensures, c.from.ensures)) c.loop-local.invariant
