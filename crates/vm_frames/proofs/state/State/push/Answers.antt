-- The value stands above the operands.
use Rattle.std.proofs.Common.{length, subst}
use Rattle.vm_frames.specs.Seen.{IsSet}
use Rattle.vm_frames.proofs.States.{has_room, pushes, pushed-kept, texts_is}
use Rattle.vm_frames.proofs.state.State.push.Goals as goal

pub push-requires : goal.push-requires
push-requires c = has_room c.self.inside c.args.self.now c.self.view_is c.self.invariant c.requires.room

pub invariant_of-self : goal.invariant_of-self
invariant_of-self c =
    pushed-kept c.self.inside c.args.self.now c.self.view_is c.self.invariant c.push.new.self c.push.ensures.callers c.args.place
    c.args.cell
    c.push.ensures.running c.push.ensures.spare
    (subst (λ t. IsSet (length t) c.args.cell) (texts_is c.self.inside c.args.self.now c.self.view_is c.self.invariant) c.requires.set)

pub returns-clause-machine : goal.returns-clause-machine
returns-clause-machine c =
    pushes c.self.inside c.args.self.now c.self.view_is c.self.invariant c.push.new.self c.push.ensures.callers c.args.place c.args.cell
    c.push.ensures.running
