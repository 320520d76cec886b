use Rattle.std.proofs.Common.{◌≡◌, [], ◌∷◌, Some, None, ◌∙◌}
use Rattle.vm_model.specs.declared.value.Value.{Value}
use Rattle.vm_model.specs.Machine.{Machine}
use Rattle.vm_frames.specs.Seen.{value_in}
use Rattle.vm_session.specs.State.{state_of}
use Rattle.vm_actions.specs.Table.{sort_of}
use Rattle.vm_typed.proofs.Called.{return_some, returning_value_telling}
use Rattle.vm_typed.proofs.Told.{told_so}
use Rattle.vm_typed.proofs.telling.return_telling.Goals as goal

pub operand-value-requires : goal.operand-value-requires
operand-value-requires c =
    return_some c.args.linked.now (state_of c.args.state.now) (sort_of c.args.sort) c.requires.next

pub returns : goal.returns
returns c =
    let p = c.args.linked.now in
    let m : Machine = state_of c.args.state.now in
    let v : Value = value_in c.args.state.now.texts c.operand-value.result in
    told_so p m (state_of c.leave_telling.new.state) (v ∷ []) c.leave_telling.result
    (returning_value_telling p m (sort_of c.args.sort) v c.requires.next c.operand-value.ensures.value) c.leave_telling.ensures
