use Rattle.std.proofs.Common.{◌∙◌, ap, map, sym, Ok}
use Rattle.std.proofs.lemmas.Result.{err_from_is_err_and}
use Rattle.mg_sources.specs.Files.{sources}
use Rattle.mg_sources.specs.Parts.{part_of}
use Rattle.mg_refined.proofs.Pairs.{have_kinds, two_states, first_there, second_there, told_same, told_of, unread}
use Rattle.mg_refined.proofs.refined.refined.Goals as goal

pub read_parts-requires-clause-same : goal.read_parts-requires-clause-same
read_parts-requires-clause-same c = c.requires.two ∙ sym c.requires.same

pub read_parts-requires-clause-kinds : goal.read_parts-requires-clause-kinds
read_parts-requires-clause-kinds c = have_kinds c.args.names.now c.requires.kinds

pub returns-in_err-parts : goal.returns-in_err-parts
returns-in_err-parts c =
    let e = err_from_is_err_and c.from_residual.result c.from_residual.ensures.1 in
    rw (e.1, e.2)
    (unread (sources c.args.names.now c.args.contents.now) c.in_err-parts.field-0.0 c.in_err-parts.ensures)

pub typestate_at-requires : goal.typestate_at-requires
typestate_at-requires c =
    let t = two_states c.args.names.now c.args.contents.now (map part_of c.in_ok-parts.parts.items) c.requires.two c.requires.same
    c.requires.kinds c.in_ok-parts.ensures in
    (t.a, first_there (map part_of c.as_slice-both.result.now) t.a t.b (ap (map part_of) c.as_slice-both.ensures.items ∙ t.are))

pub typestate_at-requires-2 : goal.typestate_at-requires-2
typestate_at-requires-2 c =
    let t = two_states c.args.names.now c.args.contents.now (map part_of c.in_ok-parts.parts.items) c.requires.two c.requires.same
    c.requires.kinds c.in_ok-parts.ensures in
    (t.b, second_there (map part_of c.as_slice-both.result.now) t.a t.b (ap (map part_of) c.as_slice-both.ensures.items ∙ t.are))

pub returns : goal.returns
returns c =
    let both = map part_of c.as_slice-both.result.now in
    told_of c.args.names.now c.args.contents.now (map part_of c.in_ok-parts.parts.items) both
    c.in_ok-tell.field-0.text c.in_ok-tell.field-0.stands c.requires.two c.requires.same c.requires.kinds
    c.in_ok-parts.ensures (ap (map part_of) c.as_slice-both.ensures.items)
    (told_same both c.typestate_at.result.now c.typestate_at-2.result.now (Ok c.in_ok-tell.field-0) c.typestate_at.ensures
    c.typestate_at-2.ensures c.in_ok-tell.ensures)
