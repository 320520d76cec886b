use Rattle.std.proofs.Common.{Err, refl, sym, subst}
use Rattle.scr_tree.specs.declared.local.Local.{Local}
use Rattle.scr_tree.specs.Local.{tree_of}
use Rattle.scr_read.specs.Outcome.{Protocol}
use Rattle.mg_refusal.specs.Order.{Answers}
use Rattle.mg_refusal.specs.declared.stop.Stop.{Stop}
use Rattle.mg_sources.specs.Files.{source_of}
use Rattle.mg_sources.specs.Reading.{Reads, Refuses, protocol}
use Rattle.mg_sources.specs.Reading as reading
use Rattle.mg_sources.proofs.ReaderLemmas.{protocol_refused}
use Rattle.mg_sources.proofs.part.read_protocol.Goals as goal

pub returns-in-Ok : goal.returns-in-Ok
returns-in-Ok c = λ name is. protocol is (c.in-Ok.ensures.answered (Protocol (tree_of c.in-Ok.local)) refl)

pub returns-in-Err : goal.returns-in-Err
returns-in-Err c = λ name is.
    let source = source_of c.args.number name c.args.bytes.now in
    let right = λ (local : Local). Reads source (reading.Protocol (tree_of local)) in
    subst (λ (z : Stop). Answers right (Refuses source) (Err z)) (sym c.in_file.ensures)
    (protocol_refused source right c.in-Err.fault c.stop_of_protocol.result is c.in-Err.ensures.place c.in-Err.ensures.answered
    c.stop_of_protocol.ensures)
