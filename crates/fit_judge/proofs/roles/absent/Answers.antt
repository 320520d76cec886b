use Rattle.std.proofs.Common.{◌≡◌, ◌<◌, ◌≤◌, length, get_or, sym, ap, ◌∙◌, subst, arith, List, true, false, true≢false}
use Rattle.std.specs.HashSet.{contains_text}
use Rattle.std.proofs.lemmas.List.{get_or_default}
use Rattle.mg_text.specs.Call.{Name}
use Rattle.mg_text.specs.declared.place.Place.{Place}
use Rattle.mg_refusal.specs.Refusals.{refusal_at}
use Rattle.mg_fits.specs.Parts.{header}
use Rattle.scr_global_tree.specs.Global.{tree_of}
use Rattle.fit_judge.specs.inner.Absent.{IsAbsent}
use Rattle.fit_judge.proofs.Absences.{header_here, header_past, header_end}
use Rattle.fit_judge.proofs.roles.absent.Goals as goal

pub loop-number-init : goal.loop-number-init
loop-number-init c = λ r j. j

pub bounds-places-number : goal.bounds-places-number
bounds-places-number c =
    let roles = ap length (c.as_slice-roles.ensures.items ∙ c.roles.ensures) in
    let places = ap length (c.as_slice-places.ensures.items ∙ c.places.ensures) in
    omega (arith, roles, places, c.requires)

pub loop-number-preserved : goal.loop-number-preserved
loop-number-preserved c =
    let roles = c.as_slice-roles.ensures.items ∙ c.roles.ensures in
    let has : contains_text c.args.there.now c.index-roles-number.result ≡ true =
    ap (contains_text c.args.there.now) (sym c.as_str.ensures) ∙ sym c.if-not-contains.ensures in
    header_past (IsAbsent c.args.kind.now (contains_text c.args.there.now)) (tree_of c.args.global.now).roles
    (tree_of c.args.global.now).places c.loop-number.number _ c.requires c.loop-number.invariant c.index-roles-number.result
    (subst (λ (xs : List Name). c.loop-number.number < length xs) roles c.loop-number-test.true)
    (c.index-roles-number.is ∙ ap (λ (xs : List Name). get_or xs c.loop-number.number c.index-roles-number.result) roles)
    (λ place r a. true≢false (sym has ∙ a.0))

pub returns-then-not-contains : goal.returns-then-not-contains
returns-then-not-contains c =
    let g = tree_of c.args.global.now in
    let role = c.index-roles-number.result in
    let number = c.loop-number.number in
    let roles = c.as_slice-roles.ensures.items ∙ c.roles.ensures in
    let places = c.as_slice-places.ensures.items ∙ c.places.ensures in
    let within : number < length g.roles = subst (λ (xs : List Name). number < length xs) roles c.loop-number-test.true in
    let nowhere : Place = record { file = 0; line = 0; column = 0 } in
    let place : Place = get_or c.as_slice-places.result.now number nowhere in
    let absent : contains_text c.args.there.now role ≡ false =
    ap (contains_text c.args.there.now) (sym c.as_str.ensures) ∙ sym c.if-not-contains.ensures in
    header_here (IsAbsent c.args.kind.now (contains_text c.args.there.now)) g.roles g.places number (header g.roles g.places) c.requires
    c.loop-number.invariant role place within (c.index-roles-number.is ∙ ap (λ (xs : List Name). get_or xs number role) roles)
    (ap (λ (xs : List Place). get_or xs number nowhere) places
    ∙ get_or_default g.places number nowhere place (subst (λ n. number < n) (sym c.requires) within))
    c.named.result (absent, c.named.ensures ∙ ap (refusal_at c.args.kind.now place) c.in_ok-copy.ensures)

pub returns : goal.returns
returns c =
    header_end (IsAbsent c.args.kind.now (contains_text c.args.there.now)) (tree_of c.args.global.now).roles
    (tree_of c.args.global.now).places c.loop-number.number _ c.requires c.loop-number.invariant
    (subst (λ (xs : List Name). length xs ≤ c.loop-number.number) (c.as_slice-roles.ensures.items ∙ c.roles.ensures) (omega arith))
