-- Only a note is changed.
use Rattle.std.proofs.Common.{refl, arith}
use Rattle.vm_frames.proofs.Same.{same-seen, same-kept}
use Rattle.vm_frames.proofs.state.State.note.Goals as goal

pub invariant_of-self : goal.invariant_of-self
invariant_of-self c =
    same-kept c.self.inside c.args.self.now c.self.view_is c.self.invariant
    (record c.self.inside { notes = c.put.new.self }) refl refl refl refl
    (omega arith) refl refl

pub returns-clause-machine : goal.returns-clause-machine
returns-clause-machine c =
    same-seen c.self.inside c.args.self.now c.self.view_is c.self.invariant
    (record c.self.inside { notes = c.put.new.self }) refl refl refl refl
    refl refl
