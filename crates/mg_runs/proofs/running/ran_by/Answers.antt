use Rattle.std.proofs.Common.{rules}
use Rattle.std.proofs.lemmas.Result.{err_from_is_err_and}
use Rattle.vm_world_law.proofs.Lists.{got_within}
use Rattle.mg_runs.proofs.Shown.{run_no_main, run_exceeded, shown}
use Rattle.mg_runs.proofs.running.ran_by.Goals as goal

pub bounds-mains-number : goal.bounds-mains-number
bounds-mains-number c = got_within c.args.mains.now c.in-Some.number c.in-Some.ensures.main c.in-Some.ensures.is

pub offset_bounds-mains-number : goal.offset_bounds-mains-number
offset_bounds-mains-number c = let within = bounds-mains-number c in search rules

pub returns-in_err-refusal : goal.returns-in_err-refusal
returns-in_err-refusal c files accepted =
    let e = err_from_is_err_and c.from_residual.result c.from_residual.ensures.1 in
    rw (e.1, e.2) tt

pub returns-in-Some : goal.returns-in-Some
returns-in-Some c files accepted =
    run_no_main files c.args.mains.now c.args.order.now c.args.limit c.args.named c.args.traced
    c.args.core.now c.in-Some.number _ c.in_ok-refusal.refusal accepted
    c.in-Some.ensures c.in_ok-refusal.ensures

pub returns-in_err-files : goal.returns-in_err-files
returns-in_err-files c files accepted =
    let e = err_from_is_err_and c.from_residual-in_err-files.result c.from_residual-in_err-files.ensures.1 in
    rw (e.1, e.2)
    (run_exceeded files c.args.mains.now c.args.order.now c.args.limit c.args.named c.args.traced
    c.args.core.now _ accepted c.in_default.ensures c.in_err-files.ensures)

pub returns-in_err-run_files : goal.returns-in_err-run_files
returns-in_err-run_files c files accepted =
    let e = err_from_is_err_and c.from_residual-in_err-run_files.result c.from_residual-in_err-run_files.ensures.1 in
    rw (e.1, e.2) tt

pub returns : goal.returns
returns c files accepted =
    shown files c.args.mains.now c.args.order.now c.args.limit c.args.named c.args.traced c.args.core.now c.in_ok-files.files.items
    c.in_ok-run_files.field-0 accepted c.in_default.ensures c.in_ok-files.ensures c.in_ok-run_files.ensures
