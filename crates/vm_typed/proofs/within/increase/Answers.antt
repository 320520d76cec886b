use Rattle.std.proofs.Common.{◌≡◌, ◌+◌, ◌+ℤ◌, Some, IsSome, slice_get, sym, ap, ◌∙◌, subst, to_z, of_z, arith}
use Rattle.std.proofs.lemmas.Int.{to_z-of_z}
use mir.Syntax.{w8, w32}
use Rattle.vm_model.specs.declared.value.Value.TheVariants as values
use Rattle.vm_model.specs.Machine.{Machine}
use Rattle.vm_model.specs.Arithmetic.{wrap}
use Rattle.vm_model.specs.Step.{at_place, with_local}
use Rattle.vm_frames.specs.Seen.{value_in, held_in}
use Rattle.vm_session.specs.State.{state_of}
use Rattle.vm_typed.proofs.Taken.{increase_held, increase_within, increases_to, held_int, int_cell, is_there, some_is}
use Rattle.vm_typed.proofs.within.increase.Goals as goal

pub local-requires : goal.local-requires
local-requires c =
    let m : Machine = state_of c.args.state.now in
    let holds = increase_held c.args.linked.now m c.args.local c.args.by c.requires.next in
    subst (λ k. IsSome (held_in (slice_get m.frame.locals k))) (sym c.from-local.ensures) (is_there holds.1)

pub unreachable-requires : goal.unreachable-requires
unreachable-requires c =
    let m : Machine = state_of c.args.state.now in
    let holds = increase_held c.args.linked.now m c.args.local c.args.by c.requires.next in
    let says : value_in c.args.state.now.texts c.local.result ≡ values.Int holds.0 =
    some_is (value_in c.args.state.now.texts c.local.result) (values.Int holds.0)
    (c.local.ensures.value ∙ ap (λ k. held_in (slice_get m.frame.locals k)) c.from-local.ensures ∙ holds.1) in
    c.in_default.not-Int holds.0 (int_cell c.args.state.now.texts c.local.result holds.0 says)

pub set_local-requires-clause-within : goal.set_local-requires-clause-within
set_local-requires-clause-within c =
    let within = increase_within c.args.linked.now (state_of c.args.state.now) c.args.local c.args.by c.requires.next in
    omega (arith, within, c.from-local.ensures)

pub returns : goal.returns
returns c =
    let m : Machine = state_of c.args.state.now in
    let e : to_z w32 (of_z w32 c.in-Int.x) ≡ c.in-Int.x = grind (arith, to_z-of_z) in
    let by : to_z w8 (of_z w8 c.args.by) ≡ c.args.by = grind (arith, to_z-of_z) in
    let g : to_z w32 (of_z w32 c.added.result) ≡ c.added.result = grind (arith, to_z-of_z) in
    let made : to_z w32 (of_z w32 c.added.result) ≡ wrap (c.in-Int.x +ℤ c.args.by) = g ∙ c.added.ensures ∙ (λ i. wrap (e i +ℤ by i)) in
    let stored : state_of c.set_local.new.self ≡ with_local m c.args.local (values.Int (wrap (c.in-Int.x +ℤ c.args.by))) =
    c.set_local.ensures.machine ∙ (λ i. with_local m (c.from-local.ensures i) (values.Int (made i))) in
    let holds : Some (values.Int c.in-Int.x) ≡ held_in (slice_get m.frame.locals c.args.local) =
    sym (ap (λ x. Some (value_in c.args.state.now.texts x)) c.in-Int.is) ∙ c.local.ensures.value
    ∙ ap (λ k. held_in (slice_get m.frame.locals k)) c.from-local.ensures in
    increases_to c.args.linked.now m (state_of c.go_to.new.self) c.args.local c.args.by c.in-Int.x c.requires.next
    (held_int (slice_get m.frame.locals c.args.local) c.in-Int.x holds)
    (c.go_to.ensures.machine
    ∙ (λ i. at_place (stored i) ((c.place-place.ensures ∙ ap (λ (n : Machine). n.frame.place) stored) i + 1) (stored i).frame.operands))
