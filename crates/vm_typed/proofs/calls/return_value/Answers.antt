use Rattle.std.proofs.Common.{[], ◌∷◌}
use Rattle.vm_model.specs.declared.value.Value.{Value}
use Rattle.vm_model.specs.Machine.{Machine}
use Rattle.vm_frames.specs.Seen.{value_in}
use Rattle.vm_session.specs.State.{state_of}
use Rattle.vm_actions.specs.Table.{sort_of}
use Rattle.vm_typed.proofs.Called.{left_so, left_flat, return_some, return_value_steps}
use Rattle.vm_typed.proofs.calls.return_value.Goals as goal

pub operand-value-requires : goal.operand-value-requires
operand-value-requires c =
    return_some c.args.linked.now (state_of c.args.state.now) (sort_of c.args.sort) c.requires.next

pub returns : goal.returns
returns c =
    let p = c.args.linked.now in
    let m : Machine = state_of c.args.state.now in
    let new : Machine = state_of c.leave-left.new.self in
    let v : Value = value_in c.args.state.now.texts c.operand-value.result in
    let flat = c.in-Some.method.now in
    let awaits = c.in-Some.ensures.waits in
    let left = left_so p flat m.callers _ c.leave-left.result awaits c.leave-left.ensures.yes c.leave-left.ensures.no in (
      return_value_steps p m new c.in-Some.ensures.told (sort_of c.args.sort) v c.requires.next c.operand-value.ensures.value left,
      left_flat p m new (v ∷ []) flat c.as_slice.result.now m.callers c.as_slice.ensures.items c.as_slice.ensures.bound awaits left,
    )
