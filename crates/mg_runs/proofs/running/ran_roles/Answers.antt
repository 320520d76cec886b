use Rattle.std.proofs.lemmas.Result.{err_from_is_err_and}
use Rattle.mg_sources.specs.Files.{sources}
use Rattle.mg_runs.proofs.Shown.{run_unaccepted}
use Rattle.mg_runs.proofs.running.ran_roles.Goals as goal

pub returns-in_err-program : goal.returns-in_err-program
returns-in_err-program c =
    let e = err_from_is_err_and c.from_residual.result c.from_residual.ensures.1 in
    rw (e.1, e.2)
    (run_unaccepted (sources c.args.names.now c.args.contents.now) c.args.mains.now c.args.order.now c.args.limit c.args.named c.args.traced
    _
    c.in_err-program.ensures.answered)

pub ran_by-ran-requires-clause-files : goal.ran_by-ran-requires-clause-files
ran_by-ran-requires-clause-files c = (sources c.args.names.now c.args.contents.now, c.in_ok-program.ensures.answered.files_are.have)

pub returns : goal.returns
returns c = c.ran_by-ran.ensures (sources c.args.names.now c.args.contents.now) c.in_ok-program.ensures.answered.files_are
