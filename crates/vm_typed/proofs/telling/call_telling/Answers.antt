use Rattle.std.proofs.Common.{◌+◌, Some, IsSome, refl, sym, ap, ◌∙◌, subst, arith}
use Rattle.vm_model.specs.Program.{method_at}
use Rattle.vm_model.specs.Machine.{Machine}
use Rattle.vm_model.specs.Actions.{Telling, Call}
use Rattle.vm_frames.specs.Seen.{value_in}
use Rattle.vm_session.specs.State.{state_of}
use Rattle.vm_flat.specs.Flat.{StandsFor, flat_method_at}
use Rattle.vm_flat.proofs.Rows.{stands_at}
use Rattle.vm_typed.specs.Next.{IsNext}
use Rattle.vm_typed.proofs.Called.{called_there, there_too, when_true}
use Rattle.vm_typed.proofs.Called.{when_false, telling_enough, telling_locals, telling_steps}
use Rattle.vm_typed.proofs.telling.call_telling.Goals as goal

pub method_there-called-requires : goal.method_there-called-requires
method_there-called-requires c =
    let p = c.args.linked.now in
    let m : Machine = state_of c.args.state.now in
    let class = c.from-class.result in
    let next : IsNext p m (Call Telling class c.args.method) =
    subst (λ k. IsNext p m (Call Telling k c.args.method)) (sym c.from-class.ensures) c.requires.next in
    let there = called_there p m Telling class c.args.method next in
    there_too (flat_method_at c.args.flat.now class c.args.method) (method_at p class c.args.method) there.0
    (stands_at c.args.flat.now p c.requires.flat class c.args.method) there.1

pub operand-requires : goal.operand-requires
operand-requires c =
    let p = c.args.linked.now in
    let m : Machine = state_of c.args.state.now in
    let class = c.from-class.result in
    let flat = c.method_there-called.result.now in
    let next : IsNext p m (Call Telling class c.args.method) =
    subst (λ k. IsNext p m (Call Telling k c.args.method)) (sym c.from-class.ensures) c.requires.next in
    let stands : StandsFor (Some flat) (method_at p class c.args.method) =
    subst (λ o. StandsFor o (method_at p class c.args.method)) (sym c.method_there-called.ensures)
    (stands_at c.args.flat.now p c.requires.flat class c.args.method) in
    let enough = telling_enough p m class c.args.method flat stands next in
    omega (arith, enough)

pub enter_told-requires-clause-within : goal.enter_told-requires-clause-within
enter_told-requires-clause-within c =
    let p = c.args.linked.now in
    let m : Machine = state_of c.args.state.now in
    let class = c.from-class.result in
    let flat = c.method_there-called.result.now in
    let next : IsNext p m (Call Telling class c.args.method) =
    subst (λ k. IsNext p m (Call Telling k c.args.method)) (sym c.from-class.ensures) c.requires.next in
    let stands : StandsFor (Some flat) (method_at p class c.args.method) =
    subst (λ o. StandsFor o (method_at p class c.args.method)) (sym c.method_there-called.ensures)
    (stands_at c.args.flat.now p c.requires.flat class c.args.method) in
    telling_enough p m class c.args.method flat stands next

pub enter_told-requires-clause-locals : goal.enter_told-requires-clause-locals
enter_told-requires-clause-locals c =
    let p = c.args.linked.now in
    let m : Machine = state_of c.args.state.now in
    let class = c.from-class.result in
    let flat = c.method_there-called.result.now in
    let next : IsNext p m (Call Telling class c.args.method) =
    subst (λ k. IsNext p m (Call Telling k c.args.method)) (sym c.from-class.ensures) c.requires.next in
    let stands : StandsFor (Some flat) (method_at p class c.args.method) =
    subst (λ o. StandsFor o (method_at p class c.args.method)) (sym c.method_there-called.ensures)
    (stands_at c.args.flat.now p c.requires.flat class c.args.method) in
    telling_locals p m class c.args.method flat stands next

pub returns : goal.returns
returns c =
    let p = c.args.linked.now in
    let m : Machine = state_of c.args.state.now in
    let class = c.from-class.result in
    let flat = c.method_there-called.result.now in
    let next : IsNext p m (Call Telling class c.args.method) =
    subst (λ k. IsNext p m (Call Telling k c.args.method)) (sym c.from-class.ensures) c.requires.next in
    let stands : StandsFor (Some flat) (method_at p class c.args.method) =
    subst (λ o. StandsFor o (method_at p class c.args.method)) (sym c.method_there-called.ensures)
    (stands_at c.args.flat.now p c.requires.flat class c.args.method) in
    let new : Machine = state_of c.enter_told.new.state in
    let there = called_there p m Telling class c.args.method next in
    let made = when_true c.enter_told.result c.if-not-enter_told.false c.enter_told.ensures.yes in record {
      there = subst IsSome (sym there.1) refl;
      steps = telling_steps p m class c.args.method flat stands next new c.in-Object.object
          (c.operand.ensures.value ∙ ap (λ x. Some (value_in c.args.state.now.texts x)) c.in-Object.is) made;
    }

pub returns-then-not-enter_told : goal.returns-then-not-enter_told
returns-then-not-enter_told c = when_false c.enter_told.result c.if-not-enter_told.true c.enter_told.ensures.no
