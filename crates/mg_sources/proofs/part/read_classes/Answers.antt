use Rattle.std.proofs.Common.{Err, refl, sym, subst}
use Rattle.jv_tree.specs.View.{file_of}
use Rattle.jv_read.specs.Outcome.{Read}
use Rattle.mg_refusal.specs.Order.{Answers}
use Rattle.mg_refusal.specs.declared.stop.Stop.{Stop}
use Rattle.mg_sources.specs.Files.{source_of}
use Rattle.mg_sources.specs.Reading.{Reads, Refuses, classes}
use Rattle.mg_sources.specs.Parts.{part_of}
use Rattle.mg_sources.specs.declared.part.Part.{Part}
use Rattle.mg_sources.proofs.ReaderLemmas.{classes_refused}
use Rattle.mg_sources.proofs.part.read_classes.Goals as goal

pub returns-in-Ok : goal.returns-in-Ok
returns-in-Ok c = λ name is. classes is (c.in-Ok.ensures.answered (Read (file_of c.in-Ok.file)) refl)

pub returns-in-Err : goal.returns-in-Err
returns-in-Err c = λ name is.
    let source = source_of c.args.number name c.args.bytes.now in
    let right = λ (part : Part). Reads source (part_of part) in
    subst (λ (z : Stop). Answers right (Refuses source) (Err z)) (sym c.in_file.ensures)
    (classes_refused source right c.in-Err.fault c.stop_of_java.result is c.in-Err.ensures.place c.in-Err.ensures.answered
    c.stop_of_java.ensures)
