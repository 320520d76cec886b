use Rattle.std.proofs.Common.{sym, subst}
use Rattle.vm_model.specs.Program.{method_at}
use Rattle.vm_model.specs.Machine.{Machine}
use Rattle.vm_session.specs.State.{state_of}
use Rattle.cls_verify.specs.Sound.{result_of}
use Rattle.vm_flat.specs.Flat.{StandsFor, flat_method_at}
use Rattle.vm_flat.proofs.Rows.{stands_at}
use Rattle.vm_typed.proofs.Called.{nearest_there, nearest_awaited, there_too}
use Rattle.vm_typed.proofs.calls.awaited.Goals as goal

pub method_there-requires : goal.method_there-requires
method_there-requires c =
    let p = c.args.linked.now in
    let m : Machine = state_of c.args.state.now in
    let w = c.in-Some-waiting.waiting in
    let there = nearest_there p m.heap (result_of p m.frame) w.class w.method w.operands m.callers c.requires.sound.callers
    c.in-Some-waiting.ensures.nearest in
    there_too (flat_method_at c.args.flat.now w.class w.method) (method_at p w.class w.method) there.0
    (stands_at c.args.flat.now p c.requires.flat w.class w.method) there.1

pub returns-clause-waits : goal.returns-clause-waits
returns-clause-waits c =
    let p = c.args.linked.now in
    let w = c.in-Some-waiting.waiting in
    nearest_awaited p c.method_there.result.now w.class w.method w.operands (state_of c.args.state.now).callers
    c.in-Some-waiting.ensures.nearest
    (subst (λ o. StandsFor o (method_at p w.class w.method)) (sym c.method_there.ensures)
    (stands_at c.args.flat.now p c.requires.flat w.class w.method))
