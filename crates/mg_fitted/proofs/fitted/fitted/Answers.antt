use Rattle.std.proofs.Common.{ℕ, ◌<◌, ◌^◌, [], map, length, sym, subst}
use Rattle.std.proofs.lemmas.Result.{err_from_is_err_and}
use Rattle.scr_tree.specs.Local.{tree_of as local_of}
use Rattle.scr_global_tree.specs.Global.{tree_of}
use Rattle.mg_sources.specs.Files.{source_of, sources}
use Rattle.mg_projected.proofs.Located.{IsLocals}
use Rattle.mg_accepted.specs.View.{IsProgramOf}
use Rattle.mg_fitted.specs.Fitted.{CanRun}
use Rattle.mg_fitted.proofs.Steps.{unprojected_as, unaccepted, unrun, judged}
use Rattle.mg_fitted.proofs.fitted.fitted.Goals as goal

pub number_behind-number-requires : goal.number_behind-number-requires
number_behind-number-requires c = subst (λ (n : ℕ). n < 2 ^ 32) (sym c.requires.same) c.requires.count

pub returns-in_err-projected : goal.returns-in_err-projected
returns-in_err-projected c = λ name.
    let e = err_from_is_err_and c.from_residual.result c.from_residual.ensures.1 in
    rw (e.1, e.2)
    (unprojected_as IsLocals c.number_behind-number.result (length c.args.names.now) name c.args.global.now
    (sources c.args.names.now c.args.contents.now) c.args.mains.now _ c.number_behind-number.ensures
    (c.in_err-projected.ensures.answered name))

pub can_run-requires : goal.can_run-requires
can_run-requires c = (sources c.args.names.now c.args.contents.now, c.in_ok-program.ensures.answered.files_are.have)

pub judged-requires-clause-projected : goal.judged-requires-clause-projected
judged-requires-clause-projected c =
    (source_of c.number_behind-number.result [] c.args.global.now, c.in_ok-projected.ensures.answered [])

pub judged-requires-clause-accepted : goal.judged-requires-clause-accepted
judged-requires-clause-accepted c = c.in_ok-program.ensures.answered.files_are

pub returns-in_err-program : goal.returns-in_err-program
returns-in_err-program c = λ name.
    let e = err_from_is_err_and c.from_residual-in_err-program.result c.from_residual-in_err-program.ensures.1 in
    let s = source_of (length c.args.names.now) name c.args.global.now in
    let projected = c.in_ok-projected.projected in
    let are = subst (λ (n : ℕ). IsLocals (source_of n name c.args.global.now) projected) c.number_behind-number.ensures
    (c.in_ok-projected.ensures.answered name) in
    rw (e.1, e.2)
    (unaccepted s (sources c.args.names.now c.args.contents.now) c.args.mains.now (tree_of projected.global)
    (map local_of projected.locals.items) are (IsProgramOf (sources c.args.names.now c.args.contents.now)) _
    c.in_err-program.ensures.answered)

pub returns-in_err-can_run : goal.returns-in_err-can_run
returns-in_err-can_run c = λ name.
    let e = err_from_is_err_and c.from_residual-in_err-can_run.result c.from_residual-in_err-can_run.ensures.1 in
    let s = source_of (length c.args.names.now) name c.args.global.now in
    let files = sources c.args.names.now c.args.contents.now in
    let projected = c.in_ok-projected.projected in
    let are = subst (λ (n : ℕ). IsLocals (source_of n name c.args.global.now) projected) c.number_behind-number.ensures
    (c.in_ok-projected.ensures.answered name) in
    rw (e.1, e.2)
    (unrun s files c.args.mains.now (tree_of projected.global) (map local_of projected.locals.items) are
    (λ (done : Unit {0}). CanRun files c.args.mains.now c.in_ok-program.program.core) _
    (c.in_err-can_run.ensures files c.in_ok-program.ensures.answered.files_are))

pub returns : goal.returns
returns c = λ name.
    let s = source_of (length c.args.names.now) name c.args.global.now in
    let files = sources c.args.names.now c.args.contents.now in
    let projected = c.in_ok-projected.projected in
    let are = subst (λ (n : ℕ). IsLocals (source_of n name c.args.global.now) projected) c.number_behind-number.ensures
    (c.in_ok-projected.ensures.answered name) in
    judged s files c.args.mains.now (tree_of projected.global) (map local_of projected.locals.items) are c.in_ok-program.program.core
    (c.in_ok-can_run.ensures files c.in_ok-program.ensures.answered.files_are) c.judged.result
    c.judged.ensures
