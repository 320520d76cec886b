-- The text is the last of the table.
use Rattle.std.proofs.Common.{length, ap, arith}
use Rattle.vm_model.specs.Machine.{Machine}
use Rattle.vm_model.specs.Tests.{below}
use Rattle.vm_session.specs.State.{state_of}
use Rattle.vm_session.proofs.Added.{added_within, added_says, text_on_top}
use Rattle.vm_session.proofs.operands.put_text.Goals as goal

pub put-requires-clause-within : goal.put-requires-clause-within
put-requires-clause-within c =
    omega (arith, c.requires.within, ap (λ (m : Machine). length m.frame.operands) c.in_ok-number.ensures.machine)

pub overflow_add-place : goal.overflow_add-place
overflow_add-place c = omega
    (arith, c.requires.place, c.place-place.ensures, ap (λ (m : Machine). m.frame.place) c.in_ok-number.ensures.machine)

pub put-requires-clause-set : goal.put-requires-clause-set
put-requires-clause-set c =
    added_within c.args.state.now.texts c.add_text.new.self.texts c.args.text c.in_ok-number.number c.in_ok-number.ensures.number
    c.in_ok-number.ensures.ok

pub returns-clause-ok : goal.returns-clause-ok
returns-clause-ok c =
    text_on_top c.add_text.new.self.texts c.args.text c.in_ok-number.number
    (added_says c.args.state.now.texts c.add_text.new.self.texts c.args.text c.in_ok-number.number c.in_ok-number.ensures.number
    c.in_ok-number.ensures.ok)
    (state_of c.args.state.now) (state_of c.add_text.new.self) (state_of c.put.new.self) c.place-place.result
    c.in_ok-number.ensures.machine c.place-place.ensures (λ m. below c.args.count m.frame.operands) c.put.ensures.machine
