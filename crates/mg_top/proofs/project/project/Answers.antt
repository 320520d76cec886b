use Rattle.std.proofs.Common.{option_map}
use Rattle.std.proofs.lemmas.Result.{err_from_is_err_and}
use Rattle.mg_text.specs.Row.{Row}
use Rattle.mg_projected.specs.Told.{AreWritten, FirstRefusal}
use Rattle.mg_projected.specs.declared.files.RoleFile.{RoleFile}
use Rattle.mg_sources.specs.Files.{sources}
use Rattle.mg_words.specs.Words.{Project}
use Rattle.mg_top.specs.Commands.{projected}
use Rattle.mg_top.specs.Commands as commands
use Rattle.mg_top.proofs.CommandLemmas.{gives_so, stopped_so}
use Rattle.mg_top.proofs.project.project.Goals as goal

pub returns-in_err-files : goal.returns-in_err-files
returns-in_err-files c = λ names one.
    let files = sources names c.args.contents.now in
    let e = err_from_is_err_and c.from_residual.result c.from_residual.ensures.1 in
    rw (e.1, e.2)
    (stopped_so (Project (option_map (λ f. f.now) c.args.folder) names) c.args.contents.now
    (λ (written : Row RoleFile). AreWritten files written.items) (FirstRefusal files) (λ r h. commands.project h) _
    (c.in_err-files.ensures.answered names one))

pub returns-in_err-write_roles : goal.returns-in_err-write_roles
returns-in_err-write_roles c = λ names one.
    let e = err_from_is_err_and c.from_residual-in_err-write_roles.result c.from_residual-in_err-write_roles.ensures.1 in
    rw (e.1, e.2) tt

pub returns : goal.returns
returns c = λ names one.
    gives_so _ _ _ _ c.in_ok-write_roles.field-0 c.in_ok-write_roles.ensures.actions c.in_ok-write_roles.ensures.status
    (projected c.as_slice.result.now (rw c.as_slice.ensures.items (c.in_ok-files.ensures.answered names one)))
