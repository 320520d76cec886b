use Rattle.std.proofs.Common.{[]}
use Rattle.vm_model.specs.Machine.{Machine}
use Rattle.vm_session.specs.State.{state_of}
use Rattle.vm_typed.proofs.Called.{returning_telling}
use Rattle.vm_typed.proofs.Told.{told_so}
use Rattle.vm_typed.proofs.telling.return_nothing_telling.Goals as goal

pub returns : goal.returns
returns c =
    let p = c.args.linked.now in
    let m : Machine = state_of c.args.state.now in
    told_so p m (state_of c.leave_telling.new.state) [] c.leave_telling.result (returning_telling p m c.requires.next)
    c.leave_telling.ensures
