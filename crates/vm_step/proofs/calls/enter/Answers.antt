use Rattle.std.proofs.Common.{ap, ◌∙◌}
use Rattle.vm_model.specs.Tests.{max_locals_in}
use Rattle.vm_session.specs.State.{state_of}
use Rattle.vm_step.proofs.Calling.{calls_is}
use Rattle.vm_step.proofs.calls.enter.Goals as goal

pub returns-clause-ok : goal.returns-clause-ok
returns-clause-ok c = λ q.
    calls_is c.args.linked.now q (state_of c.args.state.now) (state_of c.enter.new.self) c.args.callee.class
    c.args.callee.method c.args.callee.taken c.max_locals-locals.result c.args.callee.told c.args.event c.requires.within
    (c.max_locals-locals.ensures.value ∙ ap max_locals_in c.method_at.ensures) c.in_ok-enter.ensures.ok
