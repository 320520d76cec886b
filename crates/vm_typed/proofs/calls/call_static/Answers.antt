use Rattle.std.proofs.Common.{Some, sym, subst}
use Rattle.vm_model.specs.Program.{method_at}
use Rattle.vm_model.specs.Machine.{Machine}
use Rattle.vm_model.specs.Actions.{Static, Call}
use Rattle.vm_session.specs.State.{state_of}
use Rattle.vm_flat.specs.Flat.{StandsFor, flat_method_at}
use Rattle.vm_flat.proofs.Rows.{stands_at}
use Rattle.vm_typed.specs.Next.{IsNext}
use Rattle.vm_typed.proofs.Called.{called_there, there_too, entered_flat, when_true}
use Rattle.vm_typed.proofs.Called.{when_false, static_enough, static_locals, static_steps}
use Rattle.vm_typed.proofs.calls.call_static.Goals as goal

pub method_there-called-requires : goal.method_there-called-requires
method_there-called-requires c =
    let p = c.args.linked.now in
    let m : Machine = state_of c.args.state.now in
    let class = c.from-class.result in
    let next : IsNext p m (Call Static class c.args.method) =
    subst (λ k. IsNext p m (Call Static k c.args.method)) (sym c.from-class.ensures) c.requires.next in
    let there = called_there p m Static class c.args.method next in
    there_too (flat_method_at c.args.flat.now class c.args.method) (method_at p class c.args.method) there.0
    (stands_at c.args.flat.now p c.requires.flat class c.args.method) there.1

pub enter-requires-clause-within : goal.enter-requires-clause-within
enter-requires-clause-within c =
    let p = c.args.linked.now in
    let m : Machine = state_of c.args.state.now in
    let class = c.from-class.result in
    let flat = c.method_there-called.result.now in
    let next : IsNext p m (Call Static class c.args.method) =
    subst (λ k. IsNext p m (Call Static k c.args.method)) (sym c.from-class.ensures) c.requires.next in
    let stands : StandsFor (Some flat) (method_at p class c.args.method) =
    subst (λ o. StandsFor o (method_at p class c.args.method)) (sym c.method_there-called.ensures)
    (stands_at c.args.flat.now p c.requires.flat class c.args.method) in
    static_enough p m class c.args.method flat stands next

pub enter-requires-clause-locals : goal.enter-requires-clause-locals
enter-requires-clause-locals c =
    let p = c.args.linked.now in
    let m : Machine = state_of c.args.state.now in
    let class = c.from-class.result in
    let flat = c.method_there-called.result.now in
    let next : IsNext p m (Call Static class c.args.method) =
    subst (λ k. IsNext p m (Call Static k c.args.method)) (sym c.from-class.ensures) c.requires.next in
    let stands : StandsFor (Some flat) (method_at p class c.args.method) =
    subst (λ o. StandsFor o (method_at p class c.args.method)) (sym c.method_there-called.ensures)
    (stands_at c.args.flat.now p c.requires.flat class c.args.method) in
    static_locals p m class c.args.method flat stands next

pub returns : goal.returns
returns c =
    let p = c.args.linked.now in
    let m : Machine = state_of c.args.state.now in
    let class = c.from-class.result in
    let flat = c.method_there-called.result.now in
    let next : IsNext p m (Call Static class c.args.method) =
    subst (λ k. IsNext p m (Call Static k c.args.method)) (sym c.from-class.ensures) c.requires.next in
    let stands : StandsFor (Some flat) (method_at p class c.args.method) =
    subst (λ o. StandsFor o (method_at p class c.args.method)) (sym c.method_there-called.ensures)
    (stands_at c.args.flat.now p c.requires.flat class c.args.method) in
    let new : Machine = state_of c.enter.new.state in
    let made = when_true c.enter.result c.if-not-enter.false c.enter.ensures.yes in (
      static_steps p m class c.args.method flat stands next new made,
      entered_flat p m new class c.args.method flat.params flat.max_locals flat c.as_slice.result.now c.as_slice.ensures.items
          c.as_slice.ensures.bound stands made,
    )

pub returns-then-not-enter : goal.returns-then-not-enter
returns-then-not-enter c = when_false c.enter.result c.if-not-enter.true c.enter.ensures.no
