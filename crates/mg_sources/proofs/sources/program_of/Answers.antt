use Rattle.std.proofs.Common.{map, ap, ◌∙◌, Err, Result}
use Rattle.std.proofs.lemmas.Result.{err_from_is_err_and}
use Rattle.mg_sources.specs.Files.{sources}
use Rattle.mg_sources.specs.declared.sources.Sources.{Sources as KeptSources}
use Rattle.mg_refusal.specs.declared.stop.Stop.{Stop}
use Rattle.mg_sources.specs.Parts.{part_of}
use Rattle.mg_sources.specs.View.{sourced_of}
use Rattle.mg_sources.proofs.Programs.{parts_failed, roles_failed, of_slice, is_program}
use Rattle.mg_sources.proofs.sources.program_of.Goals as goal

abbrev failed : Stop → Result KeptSources Stop
failed f = Err f

pub returns-in_err-parts : goal.returns-in_err-parts
returns-in_err-parts c =
    let f = err_from_is_err_and c.from_residual.result c.from_residual.ensures.1 in
    parts_failed (sources c.args.names.now c.args.contents.now) c.in_err-parts.field-0.0 c.from_residual.result (f.1 ∙ ap failed f.2)
    c.in_err-parts.ensures

pub returns-in_err-check_roles : goal.returns-in_err-check_roles
returns-in_err-check_roles c =
    let f = err_from_is_err_and c.from_residual-in_err-check_roles.result c.from_residual-in_err-check_roles.ensures.1 in
    let each = of_slice (sources c.args.names.now c.args.contents.now) c.in_ok-parts.parts.items c.as_slice.result.now
    c.as_slice.ensures.items c.in_ok-parts.ensures in
    roles_failed (sources c.args.names.now c.args.contents.now) c.in_err-check_roles.field-0.0 c.from_residual-in_err-check_roles.result
    (f.1 ∙ ap failed f.2) (map part_of c.as_slice.result.now) each (c.in_err-check_roles.ensures c.args.names.now c.args.contents.now each)

pub returns : goal.returns
returns c =
    let each = of_slice (sources c.args.names.now c.args.contents.now) c.in_ok-parts.parts.items c.as_slice.result.now
    c.as_slice.ensures.items c.in_ok-parts.ensures in
    is_program c.args.names.now c.args.contents.now (map part_of c.in_ok-parts.parts.items) (sourced_of c.in_ok-assemble.field-0)
    c.in_ok-parts.ensures
    (c.in_ok-check_roles.ensures c.args.names.now c.args.contents.now each) c.in_ok-assemble.ensures
