use Rattle.std.proofs.Common.{true, false}
use Rattle.vm_model.specs.Actions.{Telling, Silent}
use Rattle.vm_model.specs.Tests.{below}
use Rattle.vm_model.specs.Step as model
use Rattle.vm_session.specs.State.{state_of, operands_of}
use Rattle.vm_step.specs.inner.Calls.{calls_by}
use Rattle.vm_step.proofs.Acts.{plays_same, by_head}
use Rattle.vm_step.proofs.Cases.{telling_cases, silent_cases}
use Rattle.vm_step.proofs.calls.call_tested.Goals as goal

pub returns-in-Telling-clause-ok : goal.returns-in-Telling-clause-ok
returns-in-Telling-clause-ok c =
    let p = c.args.linked.now in
    let m = state_of c.args.state.now in
    let rest = below c.args.callee.taken (operands_of c.args.state.now) in
    plays_same m (state_of c.call_on_object.new.state) c.call_on_object.result _ _
    (λ q. rw c.in-Telling.is
    (by_head (model.calls p q m Telling c.args.callee.class c.args.callee.method rest)
    (calls_by p q m true c.args.callee.class c.args.callee.method rest)
    (telling_cases q m rest p c.args.callee.class c.args.callee.method) (operands_of c.args.state.now) c.args.callee.taken
    (rw c.in-Telling.is at c.requires.receiver) c.requires.within))
    c.call_on_object.ensures.ok

pub returns-in-Silent-clause-ok : goal.returns-in-Silent-clause-ok
returns-in-Silent-clause-ok c =
    let p = c.args.linked.now in
    let m = state_of c.args.state.now in
    let rest = below c.args.callee.taken (operands_of c.args.state.now) in
    plays_same m (state_of c.call_on_object-in-Silent.new.state) c.call_on_object-in-Silent.result _ _
    (λ q. rw c.in-Silent.is
    (by_head (model.calls p q m Silent c.args.callee.class c.args.callee.method rest)
    (calls_by p q m false c.args.callee.class c.args.callee.method rest)
    (silent_cases q m rest p c.args.callee.class c.args.callee.method) (operands_of c.args.state.now) c.args.callee.taken
    (rw c.in-Silent.is at c.requires.receiver) c.requires.within))
    c.call_on_object-in-Silent.ensures.ok
