use Rattle.std.proofs.Common.{Some, None, map, ap}
use Rattle.std.proofs.lemmas.Result.{err_from_is_err_and}
use Rattle.mg_text.specs.Row.{Row}
use Rattle.mg_read.specs.First.{Judged, with_earlier}
use Rattle.mg_refusal.specs.Order.{at_first, at_next}
use Rattle.mg_sources.specs.Files.{sources}
use Rattle.mg_sources.specs.Reading.{EachSpells, Refuses}
use Rattle.mg_sources.specs.Sources.{SharesRole}
use Rattle.mg_sources.specs.Parts.{part_of}
use Rattle.mg_sources.specs.declared.part.Part.{Part}
use Rattle.mg_sources.proofs.Programs.{of_slice}
use Rattle.mg_words.specs.Words.{Translate}
use Rattle.mg_top.specs.Commands.{translated}
use Rattle.mg_top.specs.Commands as commands
use Rattle.mg_top.specs.inner.Preparing.{target_of}
use Rattle.mg_top.proofs.SourceLemmas.{scribble_kinds}
use Rattle.mg_top.proofs.CommandLemmas.{all_written, stopped_so}
use Rattle.mg_top.proofs.translate.translate.Goals as goal

pub read_parts-requires-clause-kinds : goal.read_parts-requires-clause-kinds
read_parts-requires-clause-kinds c = scribble_kinds c.args.names.now c.requires.scribble

pub returns-in_err-parts : goal.returns-in_err-parts
returns-in_err-parts c =
    let files = sources c.args.names.now c.args.contents.now in
    let e = err_from_is_err_and c.from_residual.result c.from_residual.ensures.1 in
    rw (e.1, e.2)
    (stopped_so (Translate (target_of c.args.to.now).package_name (target_of c.args.to.now).folder c.args.names.now) c.args.contents.now
    (λ (parts : Row Part). EachSpells files (map part_of parts.items)) (λ r. Judged Refuses files (Some r))
    (λ r h. commands.translate (at_first h)) _ c.in_err-parts.ensures)

pub returns-in_err-check_roles : goal.returns-in_err-check_roles
returns-in_err-check_roles c =
    let files = sources c.args.names.now c.args.contents.now in
    let each = of_slice files c.in_ok-parts.parts.items c.as_slice.result.now c.as_slice.ensures.items c.in_ok-parts.ensures in
    let e = err_from_is_err_and c.from_residual-in_err-check_roles.result c.from_residual-in_err-check_roles.ensures.1 in
    rw (e.1, e.2)
    (stopped_so (Translate (target_of c.args.to.now).package_name (target_of c.args.to.now).folder c.args.names.now) c.args.contents.now
    (λ (done : Unit {0}). Judged SharesRole (with_earlier files) None) (λ r. Judged SharesRole (with_earlier files) (Some r))
    (λ r h. commands.translate (at_next (map part_of c.as_slice.result.now) each h)) _
    (c.in_err-check_roles.ensures c.args.names.now c.args.contents.now each))

pub returns-in_err-actions : goal.returns-in_err-actions
returns-in_err-actions c =
    let e = err_from_is_err_and c.from_residual-in_err-actions.result c.from_residual-in_err-actions.ensures.1 in
    rw (e.1, e.2) tt

pub returns : goal.returns
returns c =
    let files = sources c.args.names.now c.args.contents.now in
    let each = of_slice files c.in_ok-parts.parts.items c.as_slice.result.now c.as_slice.ensures.items c.in_ok-parts.ensures in
    translated (all_written _ c.args.names.now c.args.contents.now (map part_of c.in_ok-parts.parts.items)
    (map part_of c.as_slice-2.result.now) _
    c.requires.scribble c.in_ok-parts.ensures (ap (map part_of) c.as_slice-2.ensures.items)
    (c.in_ok-check_roles.ensures c.args.names.now c.args.contents.now each) c.in_ok-actions.ensures)
