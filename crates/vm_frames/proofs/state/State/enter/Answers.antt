-- The new frame lies over the operands that it takes.
use Rattle.std.proofs.Common.{length, refl, ap, arith}
use Rattle.vm_frames.specs.declared.cell.Head.{Head}
use Rattle.vm_frames.proofs.States.{depth_is, place_is}
use Rattle.vm_frames.proofs.Same.{on_err, same-seen, same-kept}
use Rattle.vm_frames.proofs.Entering.{enters, entered-kept}
use Rattle.vm_frames.proofs.state.State.enter.Goals as goal

pub invariant_of-self : goal.invariant_of-self
invariant_of-self c =
    same-kept c.self.inside c.args.self.now c.self.view_is c.self.invariant (record c.self.inside { heads = c.reserve.new.self }) refl
    c.reserve.ensures.items refl refl (omega arith) refl refl

pub returns-in_err-reserve-clause-err : goal.returns-in_err-reserve-clause-err
returns-in_err-reserve-clause-err c =
    on_err c.from_residual.result
    (same-seen c.self.inside c.args.self.now c.self.view_is c.self.invariant (record c.self.inside { heads = c.reserve.new.self }) refl
    c.reserve.ensures.items refl refl refl refl)

pub invariant_of-self-in-Err : goal.invariant_of-self-in-Err
invariant_of-self-in-Err c =
    same-kept c.self.inside c.args.self.now c.self.view_is c.self.invariant
    (record c.self.inside { heads = c.reserve.new.self; cells = c.reserve-2.new.self }) refl
    c.reserve.ensures.items c.reserve-2.ensures.frames.0 c.reserve-2.ensures.frames.1 c.reserve-2.ensures.never_lowered.0 refl refl

pub returns-in-Err-clause-err : goal.returns-in-Err-clause-err
returns-in-Err-clause-err c =
    same-seen c.self.inside c.args.self.now c.self.view_is c.self.invariant
    (record c.self.inside { heads = c.reserve.new.self; cells = c.reserve-2.new.self }) refl
    c.reserve.ensures.items c.reserve-2.ensures.frames.0 c.reserve-2.ensures.frames.1 refl refl

pub overflow_add-self : goal.overflow_add-self
overflow_add-self c = omega (arith, c.requires.place, place_is c.self.inside c.args.self.now c.self.view_is c.self.invariant)

pub enter-requires-clause-args : goal.enter-requires-clause-args
enter-requires-clause-args c =
    omega (
      arith,
      c.requires.args,
      depth_is c.self.inside c.args.self.now c.self.view_is c.self.invariant,
      ap length c.reserve-2.ensures.frames.0,
    )

pub invariant_of-self-in-Ok : goal.invariant_of-self-in-Ok
invariant_of-self-in-Ok c =
    let callee = c.args.callee in
    entered-kept c.self.inside c.args.self.now c.self.view_is c.self.invariant _ callee.class callee.method callee.args callee.locals _
    callee.told c.reserve-2.new.self _ refl refl c.requires.args c.requires.locals c.reserve-2.ensures.frames refl c.reserve.ensures.items
    c.push_reserved.ensures.items c.from.ensures c.enter.ensures.running c.enter.ensures.callers c.enter.ensures.spare
    c.in-Ok.ensures.ok.0

pub returns-in-Ok-clause-ok : goal.returns-in-Ok-clause-ok
returns-in-Ok-clause-ok c =
    let callee = c.args.callee in
    let head : Head = record { class = callee.class; method = callee.method; place = 0; told = callee.told; locals = callee.locals } in
    enters c.self.inside c.args.self.now c.self.view_is c.self.invariant
    (record c.self.inside { heads = c.push_reserved.new.self; cells = c.enter.new.self; head = head })
    callee.class callee.method callee.args callee.locals _
    callee.told c.reserve-2.new.self _ refl refl c.requires.args c.requires.locals c.reserve-2.ensures.frames refl c.reserve.ensures.items
    c.push_reserved.ensures.items c.from.ensures c.enter.ensures.running c.enter.ensures.callers
