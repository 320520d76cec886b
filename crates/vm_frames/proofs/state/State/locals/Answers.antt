-- The locals are the first cells.
use Rattle.std.proofs.Common.{sym, ◌∙◌}
use Rattle.vm_frames.proofs.States.{locals_is}
use Rattle.vm_frames.proofs.state.State.locals.Goals as goal

pub returns : goal.returns
returns c = c.from.ensures ∙ sym (locals_is c.self.inside c.args.self.now c.self.view_is c.self.invariant)
