use Rattle.std.proofs.Common.{Err, refl, sym, subst}
use Rattle.ts_read.specs.Outcome.{Read}
use Rattle.mg_refusal.specs.Order.{Answers}
use Rattle.mg_refusal.specs.declared.stop.Stop.{Stop}
use Rattle.mg_sources.specs.Files.{source_of}
use Rattle.mg_sources.specs.Reading.{Reads, Refuses, states}
use Rattle.mg_sources.specs.Parts.{part_of}
use Rattle.mg_sources.specs.declared.part.Part.{Part}
use Rattle.mg_sources.proofs.ReaderLemmas.{states_refused}
use Rattle.mg_sources.proofs.part.read_states.Goals as goal

pub returns-in-Ok : goal.returns-in-Ok
returns-in-Ok c = λ name is. states is (c.in-Ok.ensures.answered (Read c.in-Ok.typestate) refl)

pub returns-in-Err : goal.returns-in-Err
returns-in-Err c = λ name is.
    let source = source_of c.args.number name c.args.bytes.now in
    let right = λ (part : Part). Reads source (part_of part) in
    subst (λ (z : Stop). Answers right (Refuses source) (Err z)) (sym c.in_file.ensures)
    (states_refused source right c.in-Err.fault c.stop_of_typestate.result is c.in-Err.ensures.place c.in-Err.ensures.answered
    c.stop_of_typestate.ensures)
