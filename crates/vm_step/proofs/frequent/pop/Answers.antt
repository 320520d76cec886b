use Rattle.std.proofs.Common.{◌+◌, arith, ◌∙◌}
use Rattle.vm_model.specs.Machine.{Machine}
use Rattle.vm_model.specs.Tests.{below}
use Rattle.vm_model.specs.Step.{at_place}
use Rattle.vm_session.specs.State.{state_of}
use Rattle.vm_step.proofs.Ready.{pop_alone}
use Rattle.vm_step.proofs.frequent.pop.Goals as goal

pub returns : goal.returns
returns c =
    let m : Machine = state_of c.args.state.now in
    pop_alone c.args.max m (state_of c.drop.new.self) (omega arith) (omega arith)
    (c.drop.ensures.machine ∙ (λ i. at_place m (c.place-place.ensures i + 1) (below 1 m.frame.operands)))
