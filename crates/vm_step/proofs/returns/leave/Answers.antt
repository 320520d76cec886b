use Rattle.std.proofs.Common.{refl, ap, ◌∙◌, List}
use Rattle.std.specs.Option.{option_map, option_to_list}
use Rattle.vm_model.specs.declared.value.Value.{Value}
use Rattle.vm_model.specs.Step as model
use Rattle.vm_frames.specs.Seen.{value_in}
use Rattle.vm_session.specs.State.{state_of}
use Rattle.vm_step.proofs.Calling.{returns_is, ends_is}
use Rattle.vm_step.proofs.Ready.{when_true, when_false}
use Rattle.vm_step.proofs.returns.leave.Goals as goal

pub returns-then-leave : goal.returns-then-leave
returns-then-leave c =
    let m = state_of c.args.state.now in
    let vs : List Value = option_to_list (option_map (value_in c.args.state.now.texts) c.args.value) in
    λ q. returns_is q m (state_of c.leave.new.self) vs m.callers c.left-event.result
    (when_true c.leave.result c.if-leave.true c.leave.ensures.yes)
    (c.left-event.ensures c.args.state.now.texts ∙ ap (λ o. model.left o vs) c.told.ensures)

pub returns-else-leave : goal.returns-else-leave
returns-else-leave c =
    let m = state_of c.args.state.now in
    let vs : List Value = option_to_list (option_map (value_in c.args.state.now.texts) c.args.value) in
    let same = when_false c.leave.result c.if-leave.false c.leave.ensures.no in
    λ q. (ends_is q m vs m.callers same.0, same.1, refl)
