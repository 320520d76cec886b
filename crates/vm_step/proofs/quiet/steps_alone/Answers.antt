use Rattle.std.proofs.Common.{refl, ap, ◌∙◌}
use Rattle.std.specs.Option.{option_map}
use Rattle.vm_model.specs.Program.{method_at}
use Rattle.vm_model.specs.View.{method_of}
use Rattle.vm_session.specs.State.{state_of}
use Rattle.vm_step.proofs.Quietly.{leads_on, leads_no_more}
use Rattle.vm_step.proofs.quiet.steps_alone.Goals as goal

pub loop-taken-init : goal.loop-taken-init
loop-taken-init c = (
  refl,
  (rw c.in-Some.is at c.method_at.ensures)
      ∙ (λ i. method_at c.args.linked.now (c.class.ensures i) (c.method.ensures i)),
)

pub loop-taken-preserved : goal.loop-taken-preserved
loop-taken-preserved c =
    leads_on c.args.linked.now (state_of c.args.state.now) (state_of c.loop-taken.state)
    (state_of c.step_quietly.new.state) c.loop-taken.taken (method_of c.in-Some-step_quietly.next.now)
    (option_map (λ x. method_of x.now) c.step_quietly.result) (ap (option_map (λ x. method_of x.now)) c.in-Some-step_quietly.is)
    c.loop-taken.invariant.0 c.step_quietly.ensures

pub returns-in-None-clause-steps : goal.returns-in-None-clause-steps
returns-in-None-clause-steps c =
    leads_no_more c.args.linked.now (state_of c.args.state.now) (state_of c.loop-taken.state)
    (state_of c.step_quietly.new.state) c.loop-taken.taken (option_map (λ x. method_of x.now) c.step_quietly.result)
    (ap (option_map (λ x. method_of x.now)) c.in-None.is) c.loop-taken.invariant.0 c.step_quietly.ensures
