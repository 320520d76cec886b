-- The value stands where the local's stood.
use Rattle.std.proofs.Common.{length, subst, arith}
use Rattle.vm_frames.specs.Seen.{IsSet}
use Rattle.vm_frames.proofs.States.{locals_is, has_local, sets, set-kept, texts_is}
use Rattle.vm_frames.proofs.state.State.set_local.Goals as goal

pub put-requires : goal.put-requires
put-requires c =
    has_local c.self.inside c.args.self.now c.self.view_is c.self.invariant c.args.local
    (omega (arith, c.requires.within, locals_is c.self.inside c.args.self.now c.self.view_is c.self.invariant))

pub invariant_of-self : goal.invariant_of-self
invariant_of-self c =
    set-kept c.self.inside c.args.self.now c.self.view_is c.self.invariant c.put.new.self c.put.ensures.callers c.args.local c.args.cell
    c.put.ensures.running
    (subst (λ t. IsSet (length t) c.args.cell) (texts_is c.self.inside c.args.self.now c.self.view_is c.self.invariant) c.requires.set)
    (omega (arith, c.requires.within, locals_is c.self.inside c.args.self.now c.self.view_is c.self.invariant)) c.put.ensures.spare

pub returns-clause-machine : goal.returns-clause-machine
returns-clause-machine c =
    sets c.self.inside c.args.self.now c.self.view_is c.self.invariant c.put.new.self c.put.ensures.callers c.args.local c.args.cell
    c.put.ensures.running
    (subst (λ t. IsSet (length t) c.args.cell) (texts_is c.self.inside c.args.self.now c.self.view_is c.self.invariant) c.requires.set)
    (omega (arith, c.requires.within, locals_is c.self.inside c.args.self.now c.self.view_is c.self.invariant))
