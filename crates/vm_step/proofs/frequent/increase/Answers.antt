use Rattle.std.proofs.Common.{◌≡◌, ◌+◌, arith, refl, sym, ap, ◌∙◌, slice_get, to_z}
use Rattle.std.proofs.Common.{of_z, ◌+ℤ◌}
use Rattle.std.proofs.lemmas.Int.{to_z-of_z}
use mir.Syntax.{w8, w32}
use Rattle.vm_model.specs.declared.value.Value.TheVariants as values
use Rattle.vm_model.specs.Machine.{Machine}
use Rattle.vm_model.specs.Arithmetic.{wrap}
use Rattle.vm_model.specs.Step.{at_place, with_local}
use Rattle.vm_session.specs.State.{state_of}
use Rattle.vm_session.specs.inner.Tops.{int_of_local}
use Rattle.vm_step.proofs.Ready.{increase_alone}
use Rattle.vm_step.proofs.frequent.increase.Goals as goal

pub returns : goal.returns
returns c =
    let m : Machine = state_of c.args.state.now in
    let e : to_z w32 (of_z w32 c.in-Some.x) ≡ c.in-Some.x = grind (arith, to_z-of_z) in
    let by : to_z w8 (of_z w8 c.args.by.now) ≡ c.args.by.now = grind (arith, to_z-of_z) in
    let g : to_z w32 (of_z w32 c.added.result) ≡ c.added.result = grind (arith, to_z-of_z) in
    let made : to_z w32 (of_z w32 c.added.result) ≡ wrap (c.in-Some.x +ℤ c.args.by.now) = g ∙ c.added.ensures ∙ (λ i. wrap (e i +ℤ by i)) in
    let stored : (state_of c.set_local.new.self) ≡ with_local m c.args.local (values.Int (wrap (c.in-Some.x +ℤ c.args.by.now))) =
    c.set_local.ensures.machine ∙ (λ i. with_local m (c.from-local.ensures i) (values.Int (made i))) in
    increase_alone c.args.max m (state_of c.go_to.new.self) c.args.local c.args.by.now c.in-Some.x
    (sym c.in-Some.is ∙ c.int_of_local.ensures ∙ (λ i. int_of_local (slice_get m.frame.locals (c.from-local.ensures i)))) (omega arith)
    (c.go_to.ensures.machine ∙ ap (at_place (state_of c.set_local.new.self) (c.place-place.result + 1)) refl
    ∙ (λ i. at_place (stored i) ((c.place-place.ensures ∙ ap (λ (n : Machine). n.frame.place) stored) i + 1) (stored i).frame.operands))
