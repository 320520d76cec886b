use Rattle.std.proofs.Common.{◌∙◌, sym, ap}
use Rattle.vm_model.specs.Actions.{Use}
use Rattle.vm_model.specs.Tests.{below}
use Rattle.vm_model.specs.Step as model
use Rattle.vm_session.specs.State.{state_of, operands_of}
use Rattle.vm_step.specs.Doing.{waits_in}
use Rattle.vm_session.specs.inner.Tops.{at_top, text_in}
use Rattle.vm_step.proofs.Acts.{act_wrong}
use Rattle.vm_step.proofs.Whole.{look_is, take_is, take_int_is, take_truth_is, take_text_is}
use Rattle.vm_step.proofs.Waiting.{rests}
use Rattle.vm_step.proofs.Awaited.{looks_await, take_awaits, other_member}
use Rattle.vm_step.proofs.waits.built_waits.Goals as goal

pub returns-in-Some : goal.returns-in-Some
returns-in-Some c =
    sym (ap waits_in (act_wrong c.args.linked.now c.args.ports.now (state_of c.args.state.now) c.args.me
    (Use c.args.built) c.in-Some._kind (sym c.in-Some.is ∙ c.check_built.ensures.wrong)))

pub returns-in-Look : goal.returns-in-Look
returns-in-Look c =
    rw c.in-Look.is
    (c.look_waits.ensures
    ∙ looks_await c.args.ports.now (state_of c.args.state.now) (below 1 (operands_of c.args.state.now)) c.args.me
    (text_in (at_top (operands_of c.args.state.now) 0))
    ∙ ap waits_in
    (sym (look_is c.args.linked.now c.args.ports.now (state_of c.args.state.now) c.args.me
    (rw c.in-Look.is at (sym c.in_default.is ∙ c.check_built.ensures.wrong)))))

pub returns-in-Take : goal.returns-in-Take
returns-in-Take c =
    c.take_waits.ensures
    ∙ take_awaits c.args.linked.now c.args.ports.now (state_of c.args.state.now) c.args.me model.NoPayload _ _ c.in-Take.is
    (take_is c.args.linked.now c.args.ports.now (state_of c.args.state.now) c.args.me)
    (sym c.in_default.is ∙ c.check_built.ensures.wrong)

pub returns-in-TakeInt : goal.returns-in-TakeInt
returns-in-TakeInt c =
    c.take_waits-in-TakeInt.ensures
    ∙ take_awaits c.args.linked.now c.args.ports.now (state_of c.args.state.now) c.args.me model.IntPayload _ _ c.in-TakeInt.is
    (take_int_is c.args.linked.now c.args.ports.now (state_of c.args.state.now) c.args.me)
    (sym c.in_default.is ∙ c.check_built.ensures.wrong)

pub returns-in-TakeTruth : goal.returns-in-TakeTruth
returns-in-TakeTruth c =
    c.take_waits-in-TakeTruth.ensures
    ∙ take_awaits c.args.linked.now c.args.ports.now (state_of c.args.state.now) c.args.me model.TruthPayload _ _ c.in-TakeTruth.is
    (take_truth_is c.args.linked.now c.args.ports.now (state_of c.args.state.now) c.args.me)
    (sym c.in_default.is ∙ c.check_built.ensures.wrong)

pub returns-in-TakeText : goal.returns-in-TakeText
returns-in-TakeText c =
    c.take_waits-in-TakeText.ensures
    ∙ take_awaits c.args.linked.now c.args.ports.now (state_of c.args.state.now) c.args.me model.TextPayload _ _ c.in-TakeText.is
    (take_text_is c.args.linked.now c.args.ports.now (state_of c.args.state.now) c.args.me)
    (sym c.in_default.is ∙ c.check_built.ensures.wrong)

pub returns-in_default-built : goal.returns-in_default-built
returns-in_default-built c =
    sym (rests c.args.linked.now c.args.ports.now (state_of c.args.state.now) c.args.me (Use c.args.built)
    (other_member c.args.built c.in_default-built.not-Look c.in_default-built.not-Take c.in_default-built.not-TakeInt
    c.in_default-built.not-TakeTruth c.in_default-built.not-TakeText))
