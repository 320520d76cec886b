use Rattle.std.proofs.Common.{[], ◌∷◌, true, false, refl, ◌∙◌}
use Rattle.std.proofs.lemmas.Result.{err_from_is_err_and}
use Rattle.mg_sources.specs.Files.{sources}
use Rattle.mg_runs.specs.Commanded.{FirstRefusal}
use Rattle.mg_runs.specs.View.{IsOfRun}
use Rattle.mg_words.specs.Words.{Load}
use Rattle.mg_top.proofs.CommandLemmas.{stopped_so}
use Rattle.mg_top.proofs.LoadLemmas.{kinds_of_load, as_many, four_files, two_roles, numbers_below, each_numbered, load_given, refusal_given}
use Rattle.mg_top.proofs.load.load.Goals as goal

pub run_roles-requires-clause-same : goal.run_roles-requires-clause-same
run_roles-requires-clause-same c =
    as_many c.as_slice.result.now c.as_slice-2.result.now c.args.branches c.args.seed
    (c.as_slice.ensures.items ∙ c.in_ok-workload.ensures.names) (c.as_slice-2.ensures.items ∙ c.in_ok-workload.ensures.contents)

pub run_roles-requires-clause-count : goal.run_roles-requires-clause-count
run_roles-requires-clause-count c =
    four_files c.as_slice-2.result.now c.args.branches c.args.seed (c.as_slice-2.ensures.items ∙ c.in_ok-workload.ensures.contents)

pub run_roles-requires-clause-kinds : goal.run_roles-requires-clause-kinds
run_roles-requires-clause-kinds c = kinds_of_load c.as_slice.result.now (c.as_slice.ensures.items ∙ c.in_ok-workload.ensures.names)

pub run_roles-requires-clause-roles : goal.run_roles-requires-clause-roles
run_roles-requires-clause-roles c = two_roles _ (c.as_slice-roles.ensures.items ∙ c.in_ok-mains.ensures)

pub run_roles-requires-clause-numbers : goal.run_roles-requires-clause-numbers
run_roles-requires-clause-numbers c = numbers_below _ _ (c.as_slice-roles.ensures.items ∙ c.in_ok-mains.ensures) refl

pub run_roles-requires-clause-order : goal.run_roles-requires-clause-order
run_roles-requires-clause-order c = each_numbered _ _ (c.as_slice-roles.ensures.items ∙ c.in_ok-mains.ensures) refl

pub returns-in_err-workload : goal.returns-in_err-workload
returns-in_err-workload c = λ read.
    let e = err_from_is_err_and c.from_residual.result c.from_residual.ensures.1 in
    rw (e.1, e.2) tt

pub returns-in_err-mains : goal.returns-in_err-mains
returns-in_err-mains c = λ read.
    let e = err_from_is_err_and c.from_residual-in_err-mains.result c.from_residual-in_err-mains.ensures.1 in
    rw (e.1, e.2) tt

pub returns-in_err-ran : goal.returns-in_err-ran
returns-in_err-ran c = λ read.
    let names = c.as_slice.result.now in
    let contents = c.as_slice-2.result.now in
    let mains = c.as_slice-roles.result.now in
    let e = err_from_is_err_and c.from_residual-in_err-ran.result c.from_residual-in_err-ran.ensures.1 in
    rw (e.1, e.2)
    (stopped_so (Load c.args.branches c.args.seed) read (IsOfRun (sources names contents) mains (0 ∷ 1 ∷ []) 20000000 true false)
    (FirstRefusal (sources names contents) mains)
    (λ r h. refusal_given c.args.branches c.args.seed read names contents mains r
    (c.as_slice.ensures.items ∙ c.in_ok-workload.ensures.names) (c.as_slice-2.ensures.items ∙ c.in_ok-workload.ensures.contents)
    (c.as_slice-roles.ensures.items ∙ c.in_ok-mains.ensures) h) _ c.in_err-ran.ensures.answered)

pub returns-in_err-show : goal.returns-in_err-show
returns-in_err-show c = λ read.
    let e = err_from_is_err_and c.from_residual-in_err-show.result c.from_residual-in_err-show.ensures.1 in
    rw (e.1, e.2) tt

pub returns : goal.returns
returns c = λ read.
    load_given c.args.branches c.args.seed read c.as_slice.result.now c.as_slice-2.result.now
    c.as_slice-roles.result.now _ c.in_ok-ran.ran c.in_ok-show.field-0
    (c.as_slice.ensures.items ∙ c.in_ok-workload.ensures.names) (c.as_slice-2.ensures.items ∙ c.in_ok-workload.ensures.contents)
    (c.as_slice-roles.ensures.items ∙ c.in_ok-mains.ensures) refl c.in_ok-ran.ensures.answered c.in_ok-show.ensures.actions
    c.in_ok-show.ensures.status
