use Rattle.std.proofs.Common.{◌+◌, ℕ, map, codes, option_map, sym, ap, ◌∙◌, subst, Err, Result, List, arith}
use Rattle.std.proofs.lemmas.Result.{err_from_is_err_and}
use Rattle.mg_text.specs.Row.{Row}
use Rattle.mg_refusal.specs.declared.stop.Stop.{Stop}
use Rattle.mg_sources.specs.Files.{EndsWith, source_of, sources}
use Rattle.mg_sources.proofs.PartLemmas.{source_is, source_within, sources_length}
use Rattle.mg_client.specs.declared.files.ClientFile.{ClientFile}
use Rattle.mg_client.proofs.Each.{PlaysSoFar, plays_start, plays_more, plays_failed, plays_end, spelled_at, within_parts}
use Rattle.mg_client.proofs.files.clients_of.Goals as goal

abbrev failed : Stop → Result (Row ClientFile) Stop
failed f = Err f

pub loop-number-init : goal.loop-number-init
loop-number-init c =
    let p = option_map (λ p. p.now) c.args.package_name in
    let files = sources c.args.names.now c.args.contents.now in
    subst (λ (z : List ClientFile). PlaysSoFar p files 0 z) (sym c.new-files.ensures) (plays_start p files)

pub returns : goal.returns
returns c =
    let count = sources_length 0 c.args.names.now c.args.contents.now c.requires.same in
    plays_end (option_map (λ p. p.now) c.args.package_name) c.loop-number.invariant (omega (arith, count))

pub bounds-parts-number : goal.bounds-parts-number
bounds-parts-number c =
    within_parts c.args.names.now c.args.contents.now c.args.parts.now c.loop-number.number c.requires.same c.requires.spell
    c.loop-number-test.true

pub client_of-requires-clause-scribble : goal.client_of-requires-clause-scribble
client_of-requires-clause-scribble c =
    subst (λ (z : List ℕ). EndsWith (codes ".scr") z) (sym c.index-names-number.is)
    (c.requires.scribble c.loop-number.number c.index-names-number.result (omega (arith, c.requires.same)))

pub client_of-requires-clause-spells : goal.client_of-requires-clause-spells
client_of-requires-clause-spells c =
    spelled_at c.args.names.now c.args.contents.now c.args.parts.now c.loop-number.number c.index-names-number.result
    c.index-contents-number.result c.as_slice.result.now c.index-parts-number.result c.requires.same c.loop-number-test.true
    (within_parts c.args.names.now c.args.contents.now c.args.parts.now c.loop-number.number c.requires.same c.requires.spell
    c.loop-number-test.true)
    c.index-names-number.is c.index-contents-number.is c.as_slice.ensures c.index-parts-number.is c.requires.spell

pub returns-in_err-file : goal.returns-in_err-file
returns-in_err-file c =
    let f = err_from_is_err_and c.from_residual.result c.from_residual.ensures.1 in
    plays_failed (option_map (λ p. p.now) c.args.package_name) c.loop-number.invariant
    (source_of c.loop-number.number c.index-names-number.result c.as_slice.result.now)
    (source_within c.args.names.now c.args.contents.now c.loop-number.number c.requires.same c.loop-number-test.true)
    (source_is c.args.names.now c.args.contents.now c.loop-number.number c.index-names-number.result c.index-contents-number.result
    c.as_slice.result.now
    c.requires.same c.loop-number-test.true c.index-names-number.is c.index-contents-number.is c.as_slice.ensures)
    c.in_err-file.field-0.0 c.in_err-file.ensures c.from_residual.result (f.1 ∙ ap failed f.2)

pub loop-number-preserved : goal.loop-number-preserved
loop-number-preserved c =
    let p = option_map (λ p. p.now) c.args.package_name in
    let files = sources c.args.names.now c.args.contents.now in
    let more = plays_more p c.loop-number.invariant (source_of c.loop-number.number c.index-names-number.result c.as_slice.result.now)
    (source_within c.args.names.now c.args.contents.now c.loop-number.number c.requires.same c.loop-number-test.true)
    (source_is c.args.names.now c.args.contents.now c.loop-number.number c.index-names-number.result c.index-contents-number.result
    c.as_slice.result.now
    c.requires.same c.loop-number-test.true c.index-names-number.is c.index-contents-number.is c.as_slice.ensures)
    c.in_ok-file.file c.in_ok-file.ensures in
    subst (λ (z : List ClientFile). PlaysSoFar p files (c.loop-number.number + 1) z) (sym c.in_ok-push.ensures.ok) more
