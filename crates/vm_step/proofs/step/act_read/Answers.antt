use Rattle.std.proofs.Common.{◌∙◌, ◌∷◌, [], sym, ap, Ok, refl}
use Rattle.vm_model.specs.Actions as actions
use Rattle.vm_model.specs.Tests.{Want, taking, wrong}
use Rattle.vm_session.specs.State.{state_of}
use Rattle.vm_step.proofs.Acts.{act_wrong, plays_for}
use Rattle.vm_step.proofs.Whole.{read_is}
use Rattle.vm_step.proofs.step.act_read.Goals as goal

pub returns-in-Some-clause-ok : goal.returns-in-Some-clause-ok
returns-in-Some-clause-ok c = λ me q. (
  act_wrong c.args.linked.now q (state_of c.args.state.now) me (actions.Read c.args.class c.args.field)
      c.in-Some.kind (sym c.in-Some.is ∙ c.check.ensures.wrong
      ∙ ap (λ (w : Want). wrong c.args.linked.now
      (taking c.args.linked.now (state_of c.args.state.now) (w ∷ []) 1) (state_of c.args.state.now))
      c.object.ensures),
  refl,
  refl,
)

pub returns-clause-ok : goal.returns-clause-ok
returns-clause-ok c =
    plays_for (state_of c.args.state.now) (state_of c.read.new.state) (Ok c.read.result) _ _
    (λ me q. read_is c.args.linked.now q (state_of c.args.state.now) me c.args.class c.args.field
    (sym c.in_default.is ∙ c.check.ensures.wrong
    ∙ ap (λ (w : Want). wrong c.args.linked.now
    (taking c.args.linked.now (state_of c.args.state.now) (w ∷ []) 1) (state_of c.args.state.now))
    c.object.ensures)) c.read.ensures
