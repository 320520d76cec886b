use Rattle.std.proofs.Common.{Err, Result, ap, ◌∙◌}
use Rattle.std.proofs.lemmas.Result.{err_from_is_err_and}
use Rattle.mg_text.specs.Row.{Row}
use Rattle.mg_refusal.specs.declared.stop.Stop.{Stop}
use Rattle.mg_sources.specs.Files.{sources}
use Rattle.mg_compile.specs.declared.files.ClassFile.{ClassFile}
use Rattle.mg_compile.proofs.Given.{core_compiled, unaccepted_compiled}
use Rattle.mg_compile.proofs.compiled.compiled.Goals as goal

abbrev failed : Stop → Result (Row ClassFile) Stop
failed f = Err f

pub returns-in_err-program : goal.returns-in_err-program
returns-in_err-program c =
    let f = err_from_is_err_and c.from_residual.result c.from_residual.ensures.1 in
    unaccepted_compiled (sources c.args.names.now c.args.contents.now) c.in_err-program.field-0.0 c.from_residual.result
    (f.1 ∙ ap failed f.2)
    c.in_err-program.ensures.answered

pub class_files-files-requires : goal.class_files-files-requires
class_files-files-requires c = (sources c.args.names.now c.args.contents.now, c.in_ok-program.ensures.answered.files_are.have)

pub returns : goal.returns
returns c =
    core_compiled (sources c.args.names.now c.args.contents.now) c.in_ok-program.program.core c.class_files-files.result
    c.in_ok-program.ensures.answered.files_are c.class_files-files.ensures
