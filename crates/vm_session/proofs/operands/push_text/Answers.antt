-- The text stands in the table.
use Rattle.std.proofs.Common.{length, ap, arith}
use Rattle.vm_model.specs.Machine.{Machine}
use Rattle.vm_session.specs.State.{state_of}
use Rattle.vm_session.proofs.Added.{text_on_top}
use Rattle.vm_session.proofs.operands.push_text.Goals as goal

pub push-requires-clause-room : goal.push-requires-clause-room
push-requires-clause-room c = omega (arith, c.requires.room, ap (λ (m : Machine). length m.frame.operands) c.number_of.ensures.machine)

pub overflow_add-place : goal.overflow_add-place
overflow_add-place c = omega
    (arith, c.requires.place, c.place-place.ensures, ap (λ (m : Machine). m.frame.place) c.number_of.ensures.machine)

pub returns-clause-ok : goal.returns-clause-ok
returns-clause-ok c =
    text_on_top c.number_of.new.state.texts c.args.text.now c.in_ok-number.number c.in_ok-number.ensures.says
    (state_of c.args.state.now) (state_of c.number_of.new.state) (state_of c.push.new.self) c.place-place.result
    c.number_of.ensures.machine c.place-place.ensures (λ m. m.frame.operands) c.push.ensures.machine
