use Rattle.std.proofs.Common.{rules}
use Rattle.std.proofs.lemmas.Result.{err_from_is_err_and}
use Rattle.vm_world_law.proofs.Lists.{got_within}
use Rattle.mg_sources.specs.Files.{sources}
use Rattle.mg_exec.proofs.Shown.{run_none, run_no_main, run_shown}
use Rattle.mg_exec.proofs.execution.ran_roles.Goals as goal

pub returns-in_err-linked : goal.returns-in_err-linked
returns-in_err-linked c = λ names same.
    let e = err_from_is_err_and c.from_residual.result c.from_residual.ensures.1 in
    rw (e.1, e.2)
    (run_none (sources names c.args.contents.now) c.args.mains.now c.args.order.now c.args.limit c.args.named c.args.traced _
    (c.in_err-linked.ensures names same))

pub bounds-mains-number : goal.bounds-mains-number
bounds-mains-number c = got_within c.args.mains.now c.in-Some.number c.in-Some.ensures.main c.in-Some.ensures.is

pub offset_bounds-mains-number : goal.offset_bounds-mains-number
offset_bounds-mains-number c = let within = bounds-mains-number c in search rules

pub returns-in_err-refusal : goal.returns-in_err-refusal
returns-in_err-refusal c = λ names same.
    let e = err_from_is_err_and c.from_residual-in_err-refusal.result c.from_residual-in_err-refusal.ensures.1 in
    rw (e.1, e.2) tt

pub returns-in-Some : goal.returns-in-Some
returns-in-Some c = λ names same.
    run_no_main (sources names c.args.contents.now) c.args.mains.now c.args.order.now c.args.limit c.args.named c.args.traced
    c.in_ok-linked.linked c.in-Some.number _ c.in_ok-refusal.refusal (c.in_ok-linked.ensures names same)
    c.in-Some.ensures c.in_ok-refusal.ensures

pub returns-in_err-run : goal.returns-in_err-run
returns-in_err-run c = λ names same.
    let e = err_from_is_err_and c.from_residual-in_err-run.result c.from_residual-in_err-run.ensures.1 in
    rw (e.1, e.2) tt

pub returns : goal.returns
returns c = λ names same.
    run_shown (sources names c.args.contents.now) c.args.mains.now c.args.order.now c.args.limit c.args.named c.args.traced
    c.in_ok-linked.linked c.in_ok-run.field-0 (c.in_ok-linked.ensures names same) c.in_default.ensures c.in_ok-run.ensures
