-- The frame is at another place.
use Rattle.vm_frames.proofs.Rows.{placed}
use Rattle.std.proofs.Common.{length, ap}
use Rattle.vm_model.specs.Step.{at_place}
use Rattle.vm_frames.proofs.state.State.go_to.Goals as goal

pub invariant_of-self : goal.invariant_of-self
invariant_of-self c =
    let s = c.self.inside in record {
      room = c.self.invariant.room;
      running = placed (length s.texts.items) c.args.place s.head s.cells.running c.self.invariant.running;
      callers = c.self.invariant.callers;
      objects = c.self.invariant.objects;
    }

pub returns-clause-machine : goal.returns-clause-machine
returns-clause-machine c = ap (λ t. at_place t.machine c.args.place t.machine.frame.operands) c.self.view_is
