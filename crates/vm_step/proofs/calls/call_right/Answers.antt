use Rattle.std.proofs.Common.{sym, arith}
use Rattle.vm_model.specs.Actions.{Call}
use Rattle.vm_model.specs.Tests.{needs}
use Rattle.vm_session.specs.State.{state_of}
use Rattle.vm_actions.specs.Table.{calling_of}
use Rattle.vm_step.proofs.Acts.{plays_for, enough, room_in}
use Rattle.vm_step.proofs.Whole.{call_is}
use Rattle.vm_step.proofs.calls.call_right.Goals as goal

pub returns-clause-ok : goal.returns-clause-ok
returns-clause-ok c =
    let p = c.args.linked.now in
    let m = state_of c.args.state.now in
    plays_for m (state_of c.call_tested.new.state) c.call_tested.result _ _
    (λ me q. call_is p q m me (calling_of c.args.calling) c.args.class c.args.method c.taken-taken.result
    (sym c.taken-taken.ensures.count) (sym c.requires.right))
    c.call_tested.ensures.ok

pub call_tested-requires-clause-within : goal.call_tested-requires-clause-within
call_tested-requires-clause-within c =
    let p = c.args.linked.now in
    let m = state_of c.args.state.now in
    omega (
      arith,
      c.taken-taken.ensures.count,
      enough p (needs p m (Call (calling_of c.args.calling) c.args.class c.args.method)) m (sym c.requires.right),
    )

pub call_tested-requires-clause-locals : goal.call_tested-requires-clause-locals
call_tested-requires-clause-locals c =
    let p = c.args.linked.now in
    let m = state_of c.args.state.now in
    let right = room_in p (needs p m (Call (calling_of c.args.calling) c.args.class c.args.method)) m (sym c.requires.right) in
    omega (arith, right.0, c.taken-taken.ensures.count)
