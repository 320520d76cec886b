use Rattle.std.proofs.Common.{vec_len, ap, sym, ◌∙◌, arith}
use Rattle.std.specs.Prelude.{slice_set}
use Rattle.cls_rows.proofs.Doing.{no_store, wrong_store, past_store, stores}
use Rattle.cls_rows.proofs.locals.store.Goals as goal

pub returns-in_default : goal.returns-in_default
returns-in_default c = no_store c.args.stacks.now c.args.sort c.args.local c.args.frame c.in_default.ensures

pub returns-then-not-is_of_sort : goal.returns-then-not-is_of_sort
returns-then-not-is_of_sort c = wrong_store c.args.stacks.now c.args.sort c.args.local c.args.frame _ c.in-Some.top.kind c.in-Some.ensures.1
    (sym c.is_of_sort.ensures ∙ c.if-not-is_of_sort.true)

pub returns-then-local-len : goal.returns-then-local-len
returns-then-local-len c = past_store c.args.stacks.now c.args.sort c.args.local c.args.frame
    (let v = ap vec_len c.as_ref.ensures in omega (arith, v, c.len.ensures, c.from-local.ensures, c.if-local-len.true))

pub returns : goal.returns
returns c = stores c.args.stacks.now c.args.sort c.args.local c.args.frame _ c.in-Some.top.kind c.in-Some.ensures.1
    (sym c.is_of_sort.ensures ∙ c.if-not-is_of_sort.false)
    (let v = ap vec_len c.as_ref.ensures in omega (arith, v, c.len.ensures, c.from-local.ensures, c.if-local-len.false))
    (c.in_ok-locals.ensures ∙ ap (λ n. slice_set c.args.frame.locals.value.items n c.in-Some.top.kind) c.from-local.ensures)
    c.in-Some.ensures.0
