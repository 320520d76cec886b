use Rattle.std.proofs.Common.{◌∙◌, sym, refl}
use Rattle.vm_session.specs.State.{state_of}
use Rattle.vm_step.proofs.Acts.{act_wrong}
use Rattle.vm_step.proofs.step.act_built.Goals as goal

pub returns-in-Some-clause-ok : goal.returns-in-Some-clause-ok
returns-in-Some-clause-ok c = (
  act_wrong c.args.linked.now c.args.ports.now (state_of c.args.state.now)
      c.args.me _ c.in-Some.kind (sym c.in-Some.is ∙ c.check_built.ensures.wrong),
  refl,
  refl,
)
