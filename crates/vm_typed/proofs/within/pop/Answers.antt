use Rattle.std.proofs.Common.{◌+◌, ◌∙◌}
use Rattle.vm_model.specs.Machine.{Machine}
use Rattle.vm_model.specs.Tests.{below}
use Rattle.vm_model.specs.Step.{at_place}
use Rattle.vm_session.specs.State.{state_of}
use Rattle.vm_typed.proofs.Taken.{pop_some, pops}
use Rattle.vm_typed.proofs.within.pop.Goals as goal

pub drop-requires : goal.drop-requires
drop-requires c = pop_some c.args.linked.now (state_of c.args.state.now) c.requires.next

pub returns : goal.returns
returns c =
    let m : Machine = state_of c.args.state.now in
    pops c.args.linked.now m (state_of c.drop.new.self) c.requires.next
    (c.drop.ensures.machine ∙ (λ i. at_place m (c.place-place.ensures i + 1) (below 1 m.frame.operands)))
