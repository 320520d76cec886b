use Rattle.std.proofs.Common.{◌+◌, Some, sym, ap, ◌∙◌, subst, arith}
use Rattle.vm_model.specs.Program.{method_at}
use Rattle.vm_model.specs.Machine.{Machine}
use Rattle.vm_model.specs.Actions.{Silent, Call}
use Rattle.vm_frames.specs.Seen.{value_in}
use Rattle.vm_session.specs.State.{state_of}
use Rattle.vm_flat.specs.Flat.{StandsFor, flat_method_at}
use Rattle.vm_flat.proofs.Rows.{stands_at}
use Rattle.vm_typed.specs.Next.{IsNext}
use Rattle.vm_typed.proofs.Called.{called_there, there_too, entered_flat, when_true}
use Rattle.vm_typed.proofs.Called.{when_false, silent_enough, silent_locals, silent_steps}
use Rattle.vm_typed.proofs.calls.call_silent.Goals as goal

pub method_there-called-requires : goal.method_there-called-requires
method_there-called-requires c =
    let p = c.args.linked.now in
    let m : Machine = state_of c.args.state.now in
    let class = c.from-class.result in
    let next : IsNext p m (Call Silent class c.args.method) =
    subst (λ k. IsNext p m (Call Silent k c.args.method)) (sym c.from-class.ensures) c.requires.next in
    let there = called_there p m Silent class c.args.method next in
    there_too (flat_method_at c.args.flat.now class c.args.method) (method_at p class c.args.method) there.0
    (stands_at c.args.flat.now p c.requires.flat class c.args.method) there.1

pub operand-requires : goal.operand-requires
operand-requires c =
    let p = c.args.linked.now in
    let m : Machine = state_of c.args.state.now in
    let class = c.from-class.result in
    let flat = c.method_there-called.result.now in
    let next : IsNext p m (Call Silent class c.args.method) =
    subst (λ k. IsNext p m (Call Silent k c.args.method)) (sym c.from-class.ensures) c.requires.next in
    let stands : StandsFor (Some flat) (method_at p class c.args.method) =
    subst (λ o. StandsFor o (method_at p class c.args.method)) (sym c.method_there-called.ensures)
    (stands_at c.args.flat.now p c.requires.flat class c.args.method) in
    let enough = silent_enough p m class c.args.method flat stands next in
    omega (arith, enough)

pub enter-requires-clause-within : goal.enter-requires-clause-within
enter-requires-clause-within c =
    let p = c.args.linked.now in
    let m : Machine = state_of c.args.state.now in
    let class = c.from-class.result in
    let flat = c.method_there-called.result.now in
    let next : IsNext p m (Call Silent class c.args.method) =
    subst (λ k. IsNext p m (Call Silent k c.args.method)) (sym c.from-class.ensures) c.requires.next in
    let stands : StandsFor (Some flat) (method_at p class c.args.method) =
    subst (λ o. StandsFor o (method_at p class c.args.method)) (sym c.method_there-called.ensures)
    (stands_at c.args.flat.now p c.requires.flat class c.args.method) in
    silent_enough p m class c.args.method flat stands next

pub enter-requires-clause-locals : goal.enter-requires-clause-locals
enter-requires-clause-locals c =
    let p = c.args.linked.now in
    let m : Machine = state_of c.args.state.now in
    let class = c.from-class.result in
    let flat = c.method_there-called.result.now in
    let next : IsNext p m (Call Silent class c.args.method) =
    subst (λ k. IsNext p m (Call Silent k c.args.method)) (sym c.from-class.ensures) c.requires.next in
    let stands : StandsFor (Some flat) (method_at p class c.args.method) =
    subst (λ o. StandsFor o (method_at p class c.args.method)) (sym c.method_there-called.ensures)
    (stands_at c.args.flat.now p c.requires.flat class c.args.method) in
    silent_locals p m class c.args.method flat stands next

pub returns : goal.returns
returns c =
    let p = c.args.linked.now in
    let m : Machine = state_of c.args.state.now in
    let class = c.from-class.result in
    let flat = c.method_there-called.result.now in
    let next : IsNext p m (Call Silent class c.args.method) =
    subst (λ k. IsNext p m (Call Silent k c.args.method)) (sym c.from-class.ensures) c.requires.next in
    let stands : StandsFor (Some flat) (method_at p class c.args.method) =
    subst (λ o. StandsFor o (method_at p class c.args.method)) (sym c.method_there-called.ensures)
    (stands_at c.args.flat.now p c.requires.flat class c.args.method) in
    let new : Machine = state_of c.enter.new.state in
    let made = when_true c.enter.result c.if-not-enter.false c.enter.ensures.yes in (
      silent_steps p m class c.args.method flat stands next new c.in-Object._object
          (c.operand.ensures.value ∙ ap (λ x. Some (value_in c.args.state.now.texts x)) c.in-Object.is) made,
      entered_flat p m new class c.args.method (flat.params + 1) flat.max_locals flat c.as_slice.result.now c.as_slice.ensures.items
          c.as_slice.ensures.bound stands made,
    )

pub returns-then-not-enter : goal.returns-then-not-enter
returns-then-not-enter c = when_false c.enter.result c.if-not-enter.true c.enter.ensures.no
