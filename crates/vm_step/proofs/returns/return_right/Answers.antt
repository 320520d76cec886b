use Rattle.std.proofs.Common.{Ok, sym}
use Rattle.vm_frames.specs.Seen.{value_in}
use Rattle.vm_session.specs.State.{state_of}
use Rattle.vm_actions.specs.Table.{sort_of}
use Rattle.vm_step.proofs.Acts.{plays_for}
use Rattle.vm_step.proofs.Whole.{return_none_is, return_some_is}
use Rattle.vm_step.proofs.returns.return_right.Goals as goal

pub returns-in-None : goal.returns-in-None
returns-in-None c =
    let p = c.args.linked.now in
    let m = state_of c.args.state.now in
    plays_for m (state_of c.leave.new.state) (Ok c.leave.result) _ _
    (λ me q. rw c.in-None.is (return_none_is p q m me (rw c.in-None.is at (sym c.requires))))
    c.leave.ensures

pub returns-in-Some : goal.returns-in-Some
returns-in-Some c =
    let p = c.args.linked.now in
    let m = state_of c.args.state.now in
    plays_for m (state_of c.leave-in-Some.new.state) (Ok c.leave-in-Some.result) _ _
    (λ me q. rw c.in-Some.is
    (return_some_is p q m me (sort_of c.in-Some._sort) (value_in c.args.state.now.texts c.operand-value.result)
    (rw c.in-Some.is at (sym c.requires)) c.operand-value.ensures.value))
    c.leave-in-Some.ensures
