use Rattle.std.proofs.Common.{◌<◌, map, length, ap, sym, ◌∙◌, arith, rules, refl}
use Rattle.std.specs.Prelude.{option_map}
use Rattle.std.proofs.lemmas.List.{length-map}
use Rattle.std.proofs.lemmas.Option.{slice_get-map, slice_get_read}
use Rattle.mg_sources.specs.Parts.{part_of}
use Rattle.fit_judge.proofs.Spelled.{own_none, own_within, own_is}
use Rattle.fit_judge.proofs.projections.own_protocol.Goals as goal

pub bounds-parts-place : goal.bounds-parts-place
bounds-parts-place c =
    let low = own_within (map part_of c.args.parts.now) c.args.places.now c.requires c.args.role.now c.in-Some.place.now
    (sym c.in-Some.ensures.value) in
    omega (arith, low, length-map c.args.parts.now part_of)

pub offset_bounds-parts-place : goal.offset_bounds-parts-place
offset_bounds-parts-place c = let within = bounds-parts-place c in search rules

pub returns-in-Some : goal.returns-in-Some
returns-in-Some c =
    let low = own_within (map part_of c.args.parts.now) c.args.places.now c.requires c.args.role.now c.in-Some.place.now
    (sym c.in-Some.ensures.value) in
    let within : c.in-Some.place.now < length c.args.parts.now = omega (arith, low, length-map c.args.parts.now part_of) in
    own_is (map part_of c.args.parts.now) c.args.places.now c.requires c.args.role.now c.in-Some.place.now (sym c.in-Some.ensures.value)
    (part_of c.index-parts-place.result)
    (slice_get-map part_of c.args.parts.now c.in-Some.place.now
    ∙ ap (option_map part_of) (slice_get_read c.args.parts.now (length c.args.parts.now) c.in-Some.place.now c.index-parts-place.result refl
    within c.index-parts-place.is))
    c.protocol_in.result c.protocol_in.ensures

pub returns-in-None : goal.returns-in-None
returns-in-None c = own_none (map part_of c.args.parts.now) c.args.places.now c.requires c.args.role.now (sym c.in-None.ensures.value)
