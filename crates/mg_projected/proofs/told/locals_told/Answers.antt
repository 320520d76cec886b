use Rattle.std.proofs.Common.{Err, [], ◌∷◌, sym, subst}
use Rattle.mg_refusal.specs.Order.{Answers}
use Rattle.mg_refusal.specs.declared.stop.Stop.{Stop}
use Rattle.mg_sources.specs.Files.{source_of}
use Rattle.mg_projected.specs.Told.{FirstRefusal}
use Rattle.mg_projected.proofs.Located.{IsLocals, found_told}
use Rattle.mg_projected.proofs.Telling.{told_refused}
use Rattle.mg_projected.proofs.told.locals_told.Goals as goal

pub returns-in-Ok : goal.returns-in-Ok
returns-in-Ok c = λ name. found_told (source_of c.args.file name c.args.bytes.now) c.in-Ok.found c.in-Ok.ensures

pub returns-in-Err : goal.returns-in-Err
returns-in-Err c = λ name.
    let s = source_of c.args.file name c.args.bytes.now in
    subst (λ (z : Stop). Answers (IsLocals s) (FirstRefusal (s ∷ [])) (Err z)) (sym c.in_file.ensures)
    (told_refused (IsLocals s) s c.in-Err.fault c.stop_of.result c.stop_of.ensures c.in-Err.ensures.right)
