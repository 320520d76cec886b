-- The cells say what they said.
use Rattle.std.proofs.Common.{refl, arith}
use Rattle.vm_frames.proofs.Same.{same-seen, same-kept, texted, texted-kept}
use Rattle.vm_frames.proofs.state.State.add_text.Goals as goal

pub invariant_of-self : goal.invariant_of-self
invariant_of-self c =
    same-kept c.self.inside c.args.self.now c.self.view_is c.self.invariant
    (record c.self.inside { texts = c.push.new.self }) refl refl refl refl
    (omega arith) c.in_err-push.ensures.err refl

pub returns-in_err-push-clause-machine : goal.returns-in_err-push-clause-machine
returns-in_err-push-clause-machine c =
    same-seen c.self.inside c.args.self.now c.self.view_is c.self.invariant
    (record c.self.inside { texts = c.push.new.self }) refl refl refl refl
    c.in_err-push.ensures.err refl

pub invariant_of-self-2 : goal.invariant_of-self-2
invariant_of-self-2 c =
    texted-kept c.self.inside c.args.self.now c.self.view_is c.self.invariant
    (record c.self.inside { texts = c.push.new.self }) refl refl refl refl
    (omega arith) c.args.text c.in_ok-push.ensures.ok refl

pub returns-clause-machine : goal.returns-clause-machine
returns-clause-machine c =
    texted c.self.inside c.args.self.now c.self.view_is c.self.invariant
    (record c.self.inside { texts = c.push.new.self }) refl refl refl refl
    (omega arith) c.args.text c.in_ok-push.ensures.ok refl
