use Rattle.std.proofs.Common.{◌≡◌, List, Some, option_map, option_to_list, sym, ◌∙◌}
use Rattle.vm_model.specs.declared.value.Value.{Value}
use Rattle.vm_model.specs.Machine.{Machine}
use Rattle.vm_frames.specs.Seen.{value_in}
use Rattle.vm_session.specs.State.{state_of}
use Rattle.vm_typed.proofs.Called.{when_true, when_false}
use Rattle.vm_typed.proofs.Told.{leaves_telling}
use Rattle.vm_typed.proofs.telling.leave_telling.Goals as goal

pub returns : goal.returns
returns c =
    let p = c.args.linked.now in
    let m : Machine = state_of c.args.state.now in
    let texts = c.args.state.now.texts in
    let vs : List Value = option_to_list (option_map (value_in texts) c.args.value) in
    leaves_telling p m (state_of c.leave.new.self) vs c.in-Some.object c.answer_of-answer.result
    (when_true c.leave.result c.if-not-leave.false c.leave.ensures.yes) (sym c.in-Some.is ∙ c.told.ensures)
    (c.answer_of-answer.ensures texts)
