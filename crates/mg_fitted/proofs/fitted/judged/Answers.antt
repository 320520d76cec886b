use Rattle.std.proofs.Common.{List, map, sym, subst}
use Rattle.std.proofs.lemmas.Result.{err_from_is_err_and}
use Rattle.mg_text.specs.Row.{Row}
use Rattle.scr_tree.specs.Local.{tree_of as local_of}
use Rattle.scr_tree.specs.Valid.{AreDistinct}
use Rattle.scr_tree.specs.declared.local.Local.{Local}
use Rattle.scr_global_tree.specs.Global.{tree_of}
use Rattle.mg_sources.specs.Files.{sources}
use Rattle.mg_sources.specs.Parts.{part_of}
use Rattle.mg_sources.specs.Reading.{EachSpells}
use Rattle.mg_sources.specs.declared.part.Part.{Part as KeptPart}
use Rattle.fit_judge.specs.Verdict.{AreProjections, IsVerdict}
use Rattle.mg_fits.specs.Parts.{roles_in}
use Rattle.mg_projected.proofs.Followed.{read_valid}
use Rattle.mg_fitted.proofs.Distinct.{roles_differ}
use Rattle.mg_fitted.proofs.Steps.{unread, is_fit, is_unfit, projections_of}
use Rattle.mg_fitted.proofs.fitted.judged.Goals as goal

pub first_unfit-requires-clause-valid : goal.first_unfit-requires-clause-valid
first_unfit-requires-clause-valid c =
    let (source, are) = c.requires.projected in
    read_valid source.number source.bytes (tree_of c.args.projected.now.global) are.reads

pub first_unfit-requires-clause-projections : goal.first_unfit-requires-clause-projections
first_unfit-requires-clause-projections c =
    let (source, are) = c.requires.projected in
    subst (λ (z : List Local). AreProjections (tree_of c.args.projected.now.global) (map local_of z)) (sym c.as_slice-locals.ensures.items)
    (projections_of source (tree_of c.args.projected.now.global) (map local_of c.args.projected.now.locals.items) are)

pub first_unfit-requires-clause-differ : goal.first_unfit-requires-clause-differ
first_unfit-requires-clause-differ c =
    let files = sources c.args.names.now c.args.contents.now in
    subst (λ (z : List KeptPart). AreDistinct (roles_in (map part_of z))) (sym c.as_slice.ensures.items)
    (roles_differ files (map part_of c.in_ok-parts.parts.items) c.in_ok-parts.ensures c.requires.accepted.have.are.are.apart)

pub returns-in_err-parts : goal.returns-in_err-parts
returns-in_err-parts c =
    let e = err_from_is_err_and c.from_residual.result c.from_residual.ensures.1 in
    let files = sources c.args.names.now c.args.contents.now in
    rw (e.1, e.2)
    (unread (tree_of c.args.projected.now.global) files c.args.mains.now c.args.core.now
    (λ (parts : Row KeptPart). EachSpells files (map part_of parts.items)) _ c.requires.accepted c.in_err-parts.ensures)

pub returns-in-Some : goal.returns-in-Some
returns-in-Some c =
    let files = sources c.args.names.now c.args.contents.now in
    is_unfit (tree_of c.args.projected.now.global) files c.args.mains.now c.args.core.now
    (map part_of c.as_slice.result.now) c.in-Some.refusal
    (subst (λ (z : List KeptPart). EachSpells files (map part_of z)) (sym c.as_slice.ensures.items) c.in_ok-parts.ensures)
    (subst (IsVerdict (tree_of c.args.projected.now.global) (map part_of c.as_slice.result.now) c.args.core.now c.args.mains.now)
    c.in-Some.is (c.in_ok-unfit.ensures))

pub returns : goal.returns
returns c =
    let files = sources c.args.names.now c.args.contents.now in
    is_fit (tree_of c.args.projected.now.global) files c.args.mains.now c.args.core.now (map part_of c.as_slice.result.now)
    (subst (λ (z : List KeptPart). EachSpells files (map part_of z)) (sym c.as_slice.ensures.items) c.in_ok-parts.ensures)
    (subst (IsVerdict (tree_of c.args.projected.now.global) (map part_of c.as_slice.result.now) c.args.core.now c.args.mains.now)
    c.in-None.is (c.in_ok-unfit.ensures))
