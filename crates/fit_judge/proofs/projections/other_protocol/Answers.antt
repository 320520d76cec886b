use Rattle.std.proofs.Common.{◌≡◌, ◌<◌, ◌≤◌, List, Contains, length, get_or, map, codes, ap, sym, subst, ◌∙◌, arith, refl, true≢false}
use Rattle.std.specs.Prelude.{option_map}
use Rattle.std.proofs.lemmas.List.{length-map}
use Rattle.std.proofs.lemmas.Option.{slice_get-map, slice_get_read}
use Rattle.mg_text.specs.Call.{Name}
use Rattle.mg_text.specs.Places.{start_of}
use Rattle.mg_text.specs.declared.place.Place.{Place}
use Rattle.scr_tree.specs.Local.{tree_of as local_of}
use Rattle.scr_global_tree.specs.Global.{tree_of}
use Rattle.scr_project.specs.Outcome.{Outcome, Protocol}
use Rattle.mg_refusal.specs.Refusals.{refusal_at}
use Rattle.mg_sources.specs.Parts.{part_of}
use Rattle.mg_fits.specs.Parts.{header, roles_in}
use Rattle.mg_fits.specs.Conditions.{HasOther}
use Rattle.fit_judge.proofs.Absences.{header_any, header_past, header_end}
use Rattle.fit_judge.proofs.Others.{as_many, projection_at, none_other, is_fine, is_other}
use Rattle.fit_judge.proofs.projections.other_protocol.Goals as goal

pub loop-number-init : goal.loop-number-init
loop-number-init c = λ core mains r j. j

pub loop-number-preserved-in-None : goal.loop-number-preserved-in-None
loop-number-preserved-in-None c = λ core mains.
    let g = tree_of c.args.global.now in
    let parts = map part_of c.args.parts.now in
    let roles = c.as_slice-roles.ensures.items ∙ c.roles.ensures in
    let none : Contains (roles_in parts) c.index-roles-number.result → ⊥ =
    subst (λ (role : Name). Contains (roles_in parts) role → ⊥) c.as_str.ensures c.in-None.ensures in
    header_past (HasOther g parts core mains) g.roles g.places c.loop-number.number (header g.roles g.places) c.requires.valid.written.placed
    (c.loop-number.invariant core mains) c.index-roles-number.result
    (subst (λ (xs : List Name). c.loop-number.number < length xs) roles c.loop-number-test.true)
    (c.index-roles-number.is ∙ ap (λ (xs : List Name). get_or xs c.loop-number.number c.index-roles-number.result) roles)
    (λ place r a. none_other g parts core mains (record { role = c.index-roles-number.result; place = place }) none r a)

pub bounds-projections-number : goal.bounds-projections-number
bounds-projections-number c =
    let g = tree_of c.args.global.now in
    let roles = ap length (c.as_slice-roles.ensures.items ∙ c.roles.ensures) in
    let many = as_many g g.roles (map local_of c.args.projections.now) c.requires.projections in
    omega (arith, roles, many, length-map c.args.projections.now local_of)

pub loop-number-preserved : goal.loop-number-preserved
loop-number-preserved c = λ core mains.
    let g = tree_of c.args.global.now in
    let parts = map part_of c.args.parts.now in
    let role = c.index-roles-number.result in
    let number = c.loop-number.number in
    let roles = c.as_slice-roles.ensures.items ∙ c.roles.ensures in
    let within : number < length g.roles = subst (λ (xs : List Name). number < length xs) roles c.loop-number-test.true in
    let is : role ≡ get_or g.roles number role = c.index-roles-number.is ∙ ap (λ (xs : List Name). get_or xs number role) roles in
    let many = as_many g g.roles (map local_of c.args.projections.now) c.requires.projections in
    let below : number < length c.args.projections.now = omega (arith, within, many, length-map c.args.projections.now local_of) in
    let outcome : Outcome g role (Protocol (local_of c.index-projections-number.result)) =
    projection_at g g.roles (map local_of c.args.projections.now) c.requires.projections number role
    (local_of c.index-projections-number.result) (slice_get_read g.roles (length g.roles) number role refl within is)
    (slice_get-map local_of c.args.projections.now number ∙ ap (option_map local_of) (slice_get_read c.args.projections.now
    (length c.args.projections.now) number c.index-projections-number.result refl below c.index-projections-number.is)) in
    let same = c.is_projection.ensures.0 c.if-not-is_projection.false in
    header_past (HasOther g parts core mains) g.roles g.places number (header g.roles g.places) c.requires.valid.written.placed
    (c.loop-number.invariant core mains) role within is
    (λ place r a. is_fine g parts core mains (record { role = role; place = place }) (local_of c.in-Some.local.now)
    (local_of c.index-projections-number.result) c.in-Some.ensures.0 (c.in-Some.ensures.1 ∙ c.as_str.ensures) outcome c.requires.differ same.0
    same.1 r a)

pub returns-then-not-is_projection : goal.returns-then-not-is_projection
returns-then-not-is_projection c = λ core mains.
    let g = tree_of c.args.global.now in
    let parts = map part_of c.args.parts.now in
    let role = c.index-roles-number.result in
    let number = c.loop-number.number in
    let roles = c.as_slice-roles.ensures.items ∙ c.roles.ensures in
    let within : number < length g.roles = subst (λ (xs : List Name). number < length xs) roles c.loop-number-test.true in
    let is : role ≡ get_or g.roles number role = c.index-roles-number.is ∙ ap (λ (xs : List Name). get_or xs number role) roles in
    let many = as_many g g.roles (map local_of c.args.projections.now) c.requires.projections in
    let below : number < length c.args.projections.now = omega (arith, within, many, length-map c.args.projections.now local_of) in
    let outcome : Outcome g role (Protocol (local_of c.index-projections-number.result)) =
    projection_at g g.roles (map local_of c.args.projections.now) c.requires.projections number role
    (local_of c.index-projections-number.result) (slice_get_read g.roles (length g.roles) number role refl within is)
    (slice_get-map local_of c.args.projections.now number ∙ ap (option_map local_of) (slice_get_read c.args.projections.now
    (length c.args.projections.now) number c.index-projections-number.result refl below c.index-projections-number.is)) in
    header_any (HasOther g parts core mains) g.roles g.places number (header g.roles g.places) c.requires.valid.written.placed
    (c.loop-number.invariant core mains) role within is c.named.result
    (λ place. is_other g parts core mains (record { role = role; place = place }) (local_of c.in-Some.local.now)
    (local_of c.index-projections-number.result) c.in-Some.ensures.0 (c.in-Some.ensures.1 ∙ c.as_str.ensures) outcome
    (λ both. true≢false (sym (c.is_projection.ensures.1 both) ∙ c.if-not-is_projection.true)) c.named.result
    (c.named.ensures
    ∙ ap (λ (p : Place). refusal_at (codes "OtherProtocol") p c.in_ok-copy.field-0) (c.start-start.ensures ∙ ap start_of c.file.ensures)
    ∙ ap (refusal_at (codes "OtherProtocol") (start_of (local_of c.in-Some.local.now).file)) c.in_ok-copy.ensures))

pub returns : goal.returns
returns c = λ core mains.
    let g = tree_of c.args.global.now in
    header_end (HasOther g (map part_of c.args.parts.now) core mains) g.roles g.places c.loop-number.number (header g.roles g.places)
    c.requires.valid.written.placed (c.loop-number.invariant core mains)
    (subst (λ (xs : List Name). length xs ≤ c.loop-number.number) (c.as_slice-roles.ensures.items ∙ c.roles.ensures) (omega arith))
