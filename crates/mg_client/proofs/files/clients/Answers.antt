use Rattle.std.proofs.Common.{map, ap, ◌∙◌, Err, Result, option_map}
use Rattle.std.proofs.lemmas.Result.{err_from_is_err_and}
use Rattle.mg_text.specs.Row.{Row}
use Rattle.mg_refusal.specs.declared.stop.Stop.{Stop}
use Rattle.mg_sources.specs.Files.{sources}
use Rattle.mg_sources.specs.Parts.{part_of}
use Rattle.mg_sources.proofs.Programs.{of_slice}
use Rattle.mg_client.specs.declared.files.ClientFile.{ClientFile}
use Rattle.mg_client.proofs.Whole.{scribble_kinds, parts_failed, roles_failed, all_answered}
use Rattle.mg_client.proofs.files.clients.Goals as goal

abbrev failed : Stop → Result (Row ClientFile) Stop
failed f = Err f

pub read_parts-requires-clause-kinds : goal.read_parts-requires-clause-kinds
read_parts-requires-clause-kinds c = scribble_kinds c.args.names.now c.requires.scribble

pub returns-in_err-parts : goal.returns-in_err-parts
returns-in_err-parts c =
    let f = err_from_is_err_and c.from_residual.result c.from_residual.ensures.1 in
    parts_failed (option_map (λ p. p.now) c.args.package_name) (sources c.args.names.now c.args.contents.now) c.in_err-parts.field-0.0
    c.from_residual.result (f.1 ∙ ap failed f.2) c.in_err-parts.ensures

pub returns-in_err-check_roles : goal.returns-in_err-check_roles
returns-in_err-check_roles c =
    let f = err_from_is_err_and c.from_residual-in_err-check_roles.result c.from_residual-in_err-check_roles.ensures.1 in
    let each = of_slice (sources c.args.names.now c.args.contents.now) c.in_ok-parts.parts.items c.as_slice.result.now
    c.as_slice.ensures.items c.in_ok-parts.ensures in
    roles_failed (option_map (λ p. p.now) c.args.package_name) (sources c.args.names.now c.args.contents.now)
    c.in_err-check_roles.field-0.0 c.from_residual-in_err-check_roles.result (f.1 ∙ ap failed f.2) (map part_of c.as_slice.result.now) each
    (c.in_err-check_roles.ensures c.args.names.now c.args.contents.now each)

pub returns : goal.returns
returns c =
    let each = of_slice (sources c.args.names.now c.args.contents.now) c.in_ok-parts.parts.items c.as_slice.result.now
    c.as_slice.ensures.items c.in_ok-parts.ensures in
    all_answered (option_map (λ p. p.now) c.args.package_name) (sources c.args.names.now c.args.contents.now)
    (map part_of c.as_slice.result.now) c.clients_of.result each
    (c.in_ok-check_roles.ensures c.args.names.now c.args.contents.now each) c.clients_of.ensures
