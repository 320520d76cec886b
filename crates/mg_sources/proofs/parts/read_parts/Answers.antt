use Rattle.std.proofs.Common.{[], ◌∷◌, map, List, sym, ap, ◌∙◌, subst, Err, Result, arith, ◌+◌}
use Rattle.std.proofs.lemmas.List.{map-append}
use Rattle.std.proofs.lemmas.Result.{err_from_is_err_and}
use Rattle.mg_text.specs.Row.{Row}
use Rattle.mg_sources.specs.declared.part.Part.{Part as KeptPart}
use Rattle.mg_refusal.specs.declared.stop.Stop.{Stop}
use Rattle.mg_sources.specs.Files.{source_of, sources}
use Rattle.mg_sources.specs.Parts.{part_of}
use Rattle.mg_sources.proofs.Endings.{kind_at}
use Rattle.mg_sources.proofs.PartLemmas.{ReadSoFar, read_start, read_more, read_failed, read_end, source_is, source_within, sources_length}
use Rattle.mg_sources.proofs.parts.read_parts.Goals as goal

abbrev failed : Stop → Result (Row KeptPart) Stop
failed f = Err f

pub loop-number-init : goal.loop-number-init
loop-number-init c =
    subst (λ (z : List KeptPart). ReadSoFar (sources c.args.names.now c.args.contents.now) 0 (map part_of z)) (sym c.new-parts.ensures)
    (read_start (sources c.args.names.now c.args.contents.now))

pub read_part-requires : goal.read_part-requires
read_part-requires c =
    kind_at c.args.names.now c.loop-number.number c.index-names-number.result c.as_slice.result.now (omega (arith, c.requires.same))
    c.index-names-number.is c.requires.kinds

pub returns-in_err-part : goal.returns-in_err-part
returns-in_err-part c =
    let f = err_from_is_err_and c.from_residual.result c.from_residual.ensures.1 in
    read_failed (sources c.args.names.now c.args.contents.now) c.loop-number.number _ c.loop-number.invariant
    (source_of c.loop-number.number c.index-names-number.result c.as_slice.result.now)
    (source_within c.args.names.now c.args.contents.now c.loop-number.number c.requires.same c.loop-number-test.true)
    (source_is c.args.names.now c.args.contents.now c.loop-number.number c.index-names-number.result c.index-contents-number.result
    c.as_slice.result.now
    c.requires.same c.loop-number-test.true c.index-names-number.is c.index-contents-number.is c.as_slice.ensures)
    c.in_err-part.field-0.0 c.in_err-part.ensures c.from_residual.result (f.1 ∙ ap failed f.2)

pub loop-number-preserved : goal.loop-number-preserved
loop-number-preserved c =
    let more = read_more c.loop-number.invariant (source_of c.loop-number.number c.index-names-number.result c.as_slice.result.now)
    (source_within c.args.names.now c.args.contents.now c.loop-number.number c.requires.same c.loop-number-test.true)
    (source_is c.args.names.now c.args.contents.now c.loop-number.number c.index-names-number.result c.index-contents-number.result
    c.as_slice.result.now
    c.requires.same c.loop-number-test.true c.index-names-number.is c.index-contents-number.is c.as_slice.ensures)
    (part_of c.in_ok-part.part) c.in_ok-part.ensures in
    subst (ReadSoFar (sources c.args.names.now c.args.contents.now) (c.loop-number.number + 1))
    (sym (ap (map part_of) c.in_ok-push.ensures.ok ∙ map-append part_of c.loop-number.parts.items (c.in_ok-part.part ∷ []))) more

pub returns : goal.returns
returns c =
    let count = sources_length 0 c.args.names.now c.args.contents.now c.requires.same in
    read_end c.loop-number.invariant (omega (arith, count))
