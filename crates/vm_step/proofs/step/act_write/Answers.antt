use Rattle.std.proofs.Common.{◌∙◌, ◌∷◌, [], sym, ap, Ok, refl}
use Rattle.vm_model.specs.Actions as actions
use Rattle.vm_model.specs.Tests.{Want, Typed, taking, wrong, type_in}
use Rattle.vm_model.specs.Types.{Named}
use Rattle.vm_model.specs.Program.{class_name}
use Rattle.vm_step.specs.Needing.{want_of}
use Rattle.vm_session.specs.State.{state_of}
use Rattle.vm_step.proofs.Acts.{act_wrong, plays_for}
use Rattle.vm_step.proofs.Whole.{write_is}
use Rattle.vm_step.proofs.step.act_write.Goals as goal

pub returns-in-Some-clause-ok : goal.returns-in-Some-clause-ok
returns-in-Some-clause-ok c = λ me q. (
  act_wrong c.args.linked.now q (state_of c.args.state.now) me
      (actions.Write c.args.class c.args.field) c.in-Some.kind (sym c.in-Some.is ∙ c.check.ensures.wrong
      ∙ ap (λ (w : Want). wrong c.args.linked.now
      (taking c.args.linked.now (state_of c.args.state.now) (w ∷ want_of c.field_want-value.result ∷ []) 0)
      (state_of c.args.state.now)) c.object.ensures
      ∙ ap (λ (w : Want). wrong c.args.linked.now
      (taking c.args.linked.now (state_of c.args.state.now)
      (Typed (Named (class_name c.args.linked.now c.args.class)) ∷ w ∷ []) 0)
      (state_of c.args.state.now)) (c.field_want-value.ensures ∙ ap type_in c.field_at.ensures)),
  refl,
  refl,
)

pub returns-clause-ok : goal.returns-clause-ok
returns-clause-ok c =
    plays_for (state_of c.args.state.now) (state_of c.write.new.state) (Ok c.write.result) _ _
    (λ me q. write_is c.args.linked.now q (state_of c.args.state.now) me c.args.class c.args.field
    (sym c.in_default.is ∙ c.check.ensures.wrong
    ∙ ap (λ (w : Want). wrong c.args.linked.now
    (taking c.args.linked.now (state_of c.args.state.now) (w ∷ want_of c.field_want-value.result ∷ []) 0)
    (state_of c.args.state.now)) c.object.ensures
    ∙ ap (λ (w : Want). wrong c.args.linked.now
    (taking c.args.linked.now (state_of c.args.state.now)
    (Typed (Named (class_name c.args.linked.now c.args.class)) ∷ w ∷ []) 0)
    (state_of c.args.state.now)) (c.field_want-value.ensures ∙ ap type_in c.field_at.ensures))) c.write.ensures
