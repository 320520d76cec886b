use Rattle.std.proofs.Common.{[]}
use Rattle.vm_model.specs.Machine.{Machine}
use Rattle.vm_session.specs.State.{state_of}
use Rattle.vm_typed.proofs.Called.{left_so, left_flat, return_steps}
use Rattle.vm_typed.proofs.calls.return_nothing.Goals as goal

pub returns : goal.returns
returns c =
    let p = c.args.linked.now in
    let m : Machine = state_of c.args.state.now in
    let new : Machine = state_of c.leave-left.new.self in
    let flat = c.in-Some.method.now in
    let awaits = c.in-Some.ensures.waits in
    let left = left_so p flat m.callers _ c.leave-left.result awaits c.leave-left.ensures.yes c.leave-left.ensures.no in (
      return_steps p m new c.in-Some.ensures.told c.requires.next left,
      left_flat p m new [] flat c.as_slice.result.now m.callers c.as_slice.ensures.items c.as_slice.ensures.bound awaits left,
    )
