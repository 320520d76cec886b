-- The frames lie in the region.
use Rattle.vm_frames.proofs.Lying.{frames-lie}
use Rattle.vm_frames.proofs.state.State.frames.Goals as goal

pub returns : goal.returns
returns c = frames-lie c.self.inside c.args.self.now c.self.view_is c.self.invariant
