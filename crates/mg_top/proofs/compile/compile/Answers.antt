use Rattle.std.proofs.Common.{option_map}
use Rattle.std.proofs.lemmas.Result.{err_from_is_err_and}
use Rattle.mg_text.specs.Row.{Row}
use Rattle.mg_compile.specs.Compiled.{AreCompiled, FirstRefusal}
use Rattle.mg_compile.specs.declared.files.ClassFile.{ClassFile}
use Rattle.mg_sources.specs.Files.{sources}
use Rattle.mg_words.specs.Words.{Compile}
use Rattle.mg_top.specs.Commands.{compiled}
use Rattle.mg_top.specs.Commands as commands
use Rattle.mg_top.proofs.CommandLemmas.{gives_so, stopped_so}
use Rattle.mg_top.proofs.compile.compile.Goals as goal

pub returns-in_err-files : goal.returns-in_err-files
returns-in_err-files c =
    let files = sources c.args.names.now c.args.contents.now in
    let e = err_from_is_err_and c.from_residual.result c.from_residual.ensures.1 in
    rw (e.1, e.2)
    (stopped_so (Compile (option_map (λ f. f.now) c.args.folder) c.args.names.now) c.args.contents.now
    (λ (written : Row ClassFile). AreCompiled files written.items) (FirstRefusal files) (λ r h. commands.compile h) _
    c.in_err-files.ensures.answered)

pub returns-in_err-write_files : goal.returns-in_err-write_files
returns-in_err-write_files c =
    let e = err_from_is_err_and c.from_residual-in_err-write_files.result c.from_residual-in_err-write_files.ensures.1 in
    rw (e.1, e.2) tt

pub returns : goal.returns
returns c =
    let files = sources c.args.names.now c.args.contents.now in
    let h : AreCompiled files c.as_slice.result.now = rw c.as_slice.ensures.items c.in_ok-files.ensures.answered in
    gives_so _ _ _ _ c.in_ok-write_files.field-0 c.in_ok-write_files.ensures.actions c.in_ok-write_files.ensures.status
    (compiled c.as_slice.result.now h)
