use Rattle.std.proofs.Common.{◌≡◌, cond, ap, ◌∙◌, arith, rules, map, Some, length, string_bytes, refl}
use Rattle.std.specs.HashMap.{get_by_text}
use Rattle.std.specs.Prelude.{slice_get, option_map}
use Rattle.std.specs.Str.{bytes_eq}
use Rattle.std.proofs.lemmas.List.{length-map}
use Rattle.std.proofs.lemmas.Map.Text.{hash_map_updates_text}
use Rattle.std.proofs.lemmas.Option.{slice_get-map, slice_get_read, slice_get_within}
use Rattle.mg_text.specs.Call.{Name}
use Rattle.scr_tree.specs.Local.{tree_of as local_of}
use Rattle.mg_sources.specs.Parts.{part_of}
use Rattle.mg_sources.specs.Reading.{Protocol}
use Rattle.fit_judge.proofs.Spelled.{numbers_start, numbers_same, numbers_more, numbers_end}
use Rattle.fit_judge.proofs.projections.places_of_protocols.Goals as goal

pub loop-place-init : goal.loop-place-init
loop-place-init c = numbers_start (map part_of c.args.parts.now) c.new-places.result (λ q. search rules)

pub loop-place-preserved-in-None : goal.loop-place-preserved-in-None
loop-place-preserved-in-None c =
    let at : slice_get (map part_of c.args.parts.now) c.loop-place.place ≡ Some (part_of c.index-parts-place.result) =
    slice_get-map part_of c.args.parts.now c.loop-place.place
    ∙ ap (option_map part_of) (slice_get_read c.args.parts.now (length c.args.parts.now) c.loop-place.place c.index-parts-place.result refl
    c.loop-place-test.true c.index-parts-place.is) in
    numbers_same (map part_of c.args.parts.now) c.loop-place.place (part_of c.index-parts-place.result) at c.loop-place.places
    c.loop-place.invariant c.in-None.ensures

pub loop-place-preserved : goal.loop-place-preserved
loop-place-preserved c =
    let at : slice_get (map part_of c.args.parts.now) c.loop-place.place ≡ Some (part_of c.index-parts-place.result) =
    slice_get-map part_of c.args.parts.now c.loop-place.place
    ∙ ap (option_map part_of) (slice_get_read c.args.parts.now (length c.args.parts.now) c.loop-place.place c.index-parts-place.result refl
    c.loop-place-test.true c.index-parts-place.is) in
    let same : string_bytes c.in_ok-name.name ≡ (local_of c.in-Some.local.now).me =
    c.in_ok-name.ensures.ok ∙ c.as_str.ensures ∙ c.me.ensures in
    numbers_more (map part_of c.args.parts.now) c.loop-place.place (part_of c.index-parts-place.result) at (local_of c.in-Some.local.now)
    c.in-Some.ensures c.requires c.loop-place.places c.insert.new.self c.loop-place.invariant
    (λ q. hash_map_updates_text (string_bytes c.in_ok-name.name) c.loop-place.places c.insert.new.self _ c.in_ok-insert.ensures.updates q
    ∙ ap (λ (z : Name). cond (bytes_eq z q) (Some c.loop-place.place) (get_by_text c.loop-place.places q)) same)

pub returns : goal.returns
returns c = numbers_end (map part_of c.args.parts.now) c.loop-place.place (length (map part_of c.args.parts.now)) c.loop-place.places
    c.loop-place.invariant (omega (arith, length-map c.args.parts.now part_of))
    (λ place local e. slice_get_within (map part_of c.args.parts.now) place (Protocol local) e)
