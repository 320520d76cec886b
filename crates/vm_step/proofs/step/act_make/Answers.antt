use Rattle.std.proofs.Common.{[], ◌∙◌, sym, refl, arith}
use Rattle.vm_model.specs.Actions as actions
use Rattle.vm_model.specs.Tests.{taking}
use Rattle.vm_session.specs.State.{state_of}
use Rattle.vm_step.proofs.Acts.{act_wrong, plays_for, room_in}
use Rattle.vm_step.proofs.Whole.{make_is}
use Rattle.vm_step.proofs.step.act_make.Goals as goal

pub returns-in-Some-clause-ok : goal.returns-in-Some-clause-ok
returns-in-Some-clause-ok c = λ me q. (
  act_wrong c.args.linked.now q (state_of c.args.state.now) me (actions.Make c.args.class)
      c.in-Some.kind (sym c.in-Some.is ∙ c.check.ensures.wrong),
  refl,
  refl,
)

pub returns-clause-ok : goal.returns-clause-ok
returns-clause-ok c =
    plays_for (state_of c.args.state.now) (state_of c.make.new.state) c.make.result _ _
    (λ me q. make_is c.args.linked.now q (state_of c.args.state.now) me c.args.class
    (sym c.in_default.is ∙ c.check.ensures.wrong)) c.make.ensures.ok

pub make-requires-clause-room : goal.make-requires-clause-room
make-requires-clause-room c =
    let right = room_in c.args.linked.now
    (taking c.args.linked.now (state_of c.args.state.now) [] 1) (state_of c.args.state.now)
    (sym c.in_default.is ∙ c.check.ensures.wrong) in
    omega (arith, right.1, c.check.ensures.small)
