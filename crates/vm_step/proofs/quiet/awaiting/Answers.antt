use Rattle.std.proofs.Common.{◌≡◌, Some, arith}
use Rattle.vm_model.specs.Program.{method_at}
use Rattle.vm_model.specs.View.{method_of}
use Rattle.vm_session.specs.State.{state_of}
use Rattle.vm_step.proofs.Quietly.{near_room}
use Rattle.vm_step.proofs.quiet.awaiting.Goals as goal

pub returns : goal.returns
returns c =
    let p = c.args.linked.now in
    let at : Some (method_of c.in-Some-method_at.method.now) ≡ method_at p c.in-Some.waiting.class c.in-Some.waiting.method =
    rw c.in-Some-method_at.is at c.method_at.ensures in
    near_room p c.in-Some.waiting.class c.in-Some.waiting.method c.in-Some.waiting.operands c.args.given
    (method_of c.in-Some-method_at.method.now) (state_of c.args.state.now).callers c.in-Some.ensures.nearest at (omega arith)
