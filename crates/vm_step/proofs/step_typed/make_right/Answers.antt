use Rattle.std.proofs.Common.{sym, arith}
use Rattle.vm_model.specs.Actions as actions
use Rattle.vm_model.specs.Tests.{needs}
use Rattle.vm_session.specs.State.{state_of}
use Rattle.vm_step.proofs.Acts.{plays_for, room_in}
use Rattle.vm_step.proofs.Whole.{make_is}
use Rattle.vm_step.proofs.step_typed.make_right.Goals as goal

pub returns-clause-ok : goal.returns-clause-ok
returns-clause-ok c =
    plays_for (state_of c.args.state.now) (state_of c.make.new.state) c.make.result _ _
    (λ me q. make_is c.args.linked.now q (state_of c.args.state.now) me c.args.class (sym c.requires.right)) c.make.ensures.ok

pub make-requires-clause-room : goal.make-requires-clause-room
make-requires-clause-room c =
    let p = c.args.linked.now in
    let m = state_of c.args.state.now in
    let right = room_in p (needs p m (actions.Make c.args.class)) m (sym c.requires.right) in
    omega (arith, right.1, c.bound_room.ensures)
