use Rattle.std.proofs.Common.{List, ℕ, ◌∷◌, length, refl, sym, ap, ◌∙◌}
use Rattle.std.proofs.lemmas.Result.{err_from_is_err_and}
use Rattle.mg_sources.specs.Files.{source_of, sources}
use Rattle.mg_fitted.specs.Fitted.{AreFitted, FirstRefusal}
use Rattle.mg_words.specs.Words.{Fit}
use Rattle.mg_words.specs.inner.Judging.{cast_of}
use Rattle.mg_words.proofs.FitLemmas.{kinds_behind}
use Rattle.mg_top.proofs.CommandLemmas.{stopped_so}
use Rattle.mg_top.proofs.FitLemmas.{some_file, as_many_behind, few_behind, fits_given, unfit_given}
use Rattle.mg_top.proofs.fit.fit.Goals as goal

pub unreachable-requires : goal.unreachable-requires
unreachable-requires c = some_file c.args.files.now _ c.requires.files refl c.in_default.ensures.cases

pub unreachable-requires-in_default-split_first : goal.unreachable-requires-in_default-split_first
unreachable-requires-in_default-split_first c = some_file c.args.files.now _ c.requires.files c.requires.same c.in_default-split_first.ensures.cases

pub fit-requires-clause-same : goal.fit-requires-clause-same
fit-requires-clause-same c =
    as_many_behind c.args.files.now c.args.contents.now _ _ _ _ c.requires.same c.in-Some.ensures.cases.0
    c.in-Some-split_first.ensures.cases.0

pub fit-requires-clause-count : goal.fit-requires-clause-count
fit-requires-clause-count c = few_behind c.args.contents.now _ _ c.requires.count c.in-Some-split_first.ensures.cases.0

pub fit-requires-clause-kinds : goal.fit-requires-clause-kinds
fit-requires-clause-kinds c = kinds_behind c.args.files.now _ _ c.requires.files c.in-Some.ensures.cases.0

pub returns-in_err-mains : goal.returns-in_err-mains
returns-in_err-mains c =
    let e = err_from_is_err_and c.from_residual.result c.from_residual.ensures.1 in
    rw (e.1, e.2) tt

pub returns-in_err-fit : goal.returns-in_err-fit
returns-in_err-fit c =
    let names = c.in-Some.names.now in
    let global = source_of (length names) c.in-Some._global.now c.as_slice.result.now in
    let program = sources names c.in-Some-split_first.program.now in
    let mains = c.as_slice-2.result.now in
    let e = err_from_is_err_and c.from_residual-in_err-fit.result c.from_residual-in_err-fit.ensures.1 in
    rw (e.1, e.2)
    (stopped_so (Fit (cast_of c.args.cast.now) c.args.files.now) c.args.contents.now
    (λ (done : Unit {0}). AreFitted global program mains) (FirstRefusal global program mains)
    (unfit_given (cast_of c.args.cast.now) c.args.files.now c.args.contents.now c.in-Some._global.now names c.as_slice.result.now
    c.in-Some-split_first.program.now mains c.in-Some.ensures.cases.0
    (c.in-Some-split_first.ensures.cases.0 ∙ ap (λ (z : List ℕ). z ∷ c.in-Some-split_first.program.now) (sym c.as_slice.ensures))
    (c.as_slice-2.ensures.items ∙ c.in_ok-mains.ensures)) _ (c.in_err-fit.ensures.answered c.in-Some._global.now))

pub returns-in_err-fits : goal.returns-in_err-fits
returns-in_err-fits c =
    let e = err_from_is_err_and c.from_residual-in_err-fits.result c.from_residual-in_err-fits.ensures.1 in
    rw (e.1, e.2) tt

pub returns : goal.returns
returns c =
    fits_given (cast_of c.args.cast.now) c.args.files.now c.args.contents.now c.in-Some._global.now c.in-Some.names.now
    c.as_slice.result.now c.in-Some-split_first.program.now c.as_slice-2.result.now c.in-Some.ensures.cases.0
    (c.in-Some-split_first.ensures.cases.0 ∙ ap (λ (z : List ℕ). z ∷ c.in-Some-split_first.program.now) (sym c.as_slice.ensures))
    (c.as_slice-2.ensures.items ∙ c.in_ok-mains.ensures) c.in_ok-fits.field-0 (λ given. c.in_ok-fit.ensures.answered given)
    c.in_ok-fits.ensures.actions c.in_ok-fits.ensures.status
