use Rattle.std.proofs.Common.{◌≡◌, List, Some, get_or, slice_get, pos, sym, ap, ◌∙◌, arith}
use Rattle.std.proofs.lemmas.Option.{slice_get-get_or}
use Rattle.vm_model.specs.Machine.{Machine}
use Rattle.vm_session.specs.State.{state_of}
use Rattle.vm_flat.specs.declared.flat.Flat.{Flat}
use Rattle.vm_flat.specs.declared.flat.Flat.TheVariants as flats
use Rattle.vm_typed.proofs.Flatly.{next_of, place_within}
use Rattle.vm_typed.proofs.telling.tell_in.Goals as goal

pub bounds-code-place : goal.bounds-code-place
bounds-code-place c =
    let within = place_within c.args.linked.now (state_of c.args.state.now) c.args.code.now c.requires.runs c.requires.sound in
    omega (arith, within, c.place.ensures)

pub tell_of-requires-clause-place : goal.tell_of-requires-clause-place
tell_of-requires-clause-place c =
    let within = place_within c.args.linked.now (state_of c.args.state.now) c.args.code.now c.requires.runs c.requires.sound in
    omega (arith, within, c.requires.runs.few)

pub tell_of-requires-clause-next : goal.tell_of-requires-clause-next
tell_of-requires-clause-next c = λ a does.
    let m : Machine = state_of c.args.state.now in
    let code : List Flat = c.args.code.now in
    let f : Flat = get_or code c.place.result (flats.Int (pos 0)) in
    let within = place_within c.args.linked.now m code c.requires.runs c.requires.sound in
    let there : slice_get code m.frame.place ≡ Some f =
    ap (slice_get code) (sym c.place.ensures)
    ∙ slice_get-get_or code c.place.result (flats.Int (pos 0)) (omega (arith, within, c.place.ensures)) in
    next_of c.args.linked.now m code c.requires.runs c.requires.sound c.requires.typable f there a does
