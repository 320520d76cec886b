use Rattle.std.proofs.Common.{Some, subst, ◌∙◌}
use Rattle.vm_model.specs.Program.{method_at}
use Rattle.vm_model.specs.Machine.{Machine}
use Rattle.vm_session.specs.State.{state_of}
use Rattle.vm_flat.specs.Flat.{StandsFor}
use Rattle.vm_typed.proofs.Called.{stands_none}
use Rattle.vm_typed.proofs.telling.tell.Goals as goal

pub unreachable-requires : goal.unreachable-requires
unreachable-requires c =
    let p = c.args.linked.now in
    let m : Machine = state_of c.args.state.now in
    stands_none (method_at p c.class.result c.method.result) c.requires.sound.frame.method
    (rw c.in_default.is at (c.method_at.ensures.stands p c.requires.flat))
    ((λ i. method_at p (c.class.ensures i) (c.method.ensures i)) ∙ c.requires.sound.frame.at)

pub tell_in-requires-clause-runs : goal.tell_in-requires-clause-runs
tell_in-requires-clause-runs c =
    let p = c.args.linked.now in record {
      flat = c.in-Some.method.now;
      is = c.as_slice.ensures.items;
      few = c.as_slice.ensures.bound;
      stands = subst (StandsFor (Some c.in-Some.method.now)) (λ i. method_at p (c.class.ensures i) (c.method.ensures i))
          (rw c.in-Some.is at (c.method_at.ensures.stands p c.requires.flat));
    }
