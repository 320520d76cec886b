use Rattle.std.proofs.Common.{Err, refl, sym, subst}
use Rattle.mg_text.specs.Row.{Row}
use Rattle.mg_refusal.specs.Order.{Answers}
use Rattle.mg_refusal.specs.declared.stop.Stop.{Stop}
use Rattle.mg_sources.specs.Files.{source_of}
use Rattle.mg_projected.specs.declared.files.RoleFile.{RoleFile}
use Rattle.mg_projected.specs.Projected.{Files}
use Rattle.mg_projected.specs.Told.{AreWritten, FirstRefusal}
use Rattle.mg_projected.specs.inner.Saying.{written_alone}
use Rattle.mg_projected.proofs.Telling.{written_so, told_refused}
use Rattle.mg_projected.proofs.told.written_of.Goals as goal

pub returns-in-Ok : goal.returns-in-Ok
returns-in-Ok c = λ name.
    written_so (source_of 0 name c.args.bytes.now) c.in-Ok.files (c.in-Ok.ensures.answered (Files c.in-Ok.files.items) refl)

pub returns-in-Err : goal.returns-in-Err
returns-in-Err c = λ name.
    let files = written_alone name c.args.bytes.now in
    subst (λ (z : Stop). Answers (λ (written : Row RoleFile). AreWritten files written.items) (FirstRefusal files) (Err z))
    (sym c.in_file.ensures)
    (told_refused (λ (written : Row RoleFile). AreWritten files written.items) (source_of 0 name c.args.bytes.now) c.in-Err.fault
    c.stop_of.result c.stop_of.ensures c.in-Err.ensures.answered)
