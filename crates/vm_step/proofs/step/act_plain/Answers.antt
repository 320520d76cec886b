use Rattle.std.proofs.Common.{◌∙◌, sym, ap, Ok, refl, arith}
use Rattle.vm_model.specs.Tests.{needs}
use Rattle.vm_session.specs.State.{state_of}
use Rattle.vm_actions.specs.Table.{plain_of}
use Rattle.vm_step.proofs.Acts.{act_wrong, plays_so, room_in}
use Rattle.vm_step.proofs.Whole.{push_is, load_is, store_is, pop_is, double_is, swap_is, compute_is, negate_is, increase_is, if_zero_is}
use Rattle.vm_step.proofs.Whole.{if_both_is, if_null_is, go_is, switch_is}
use Rattle.vm_step.proofs.step.act_plain.Goals as goal

pub returns-in-Some-clause-ok : goal.returns-in-Some-clause-ok
returns-in-Some-clause-ok c = λ me q. (
  act_wrong c.args.linked.now q (state_of c.args.state.now) me _
      c.in-Some.kind (sym c.in-Some.is ∙ c.check_plain.ensures.wrong),
  refl,
  refl,
)

pub returns-in-Push-clause-ok : goal.returns-in-Push-clause-ok
returns-in-Push-clause-ok c =
    plays_so c.args.linked.now (state_of c.args.state.now) (state_of c.push_constant.new.state) (ap plain_of c.in-Push.is)
    (λ p q m me. push_is p q m me _) (sym c.in_default.is ∙ c.check_plain.ensures.wrong) c.push_constant.result c.push_constant.ensures.ok

pub returns-in-Load-clause-ok : goal.returns-in-Load-clause-ok
returns-in-Load-clause-ok c =
    plays_so c.args.linked.now (state_of c.args.state.now) (state_of c.load.new.state) (ap plain_of c.in-Load.is)
    (λ p q m me. load_is p q m me _ _) (sym c.in_default.is ∙ c.check_plain.ensures.wrong) (Ok c.load.result) c.load.ensures

pub returns-in-Store-clause-ok : goal.returns-in-Store-clause-ok
returns-in-Store-clause-ok c =
    plays_so c.args.linked.now (state_of c.args.state.now) (state_of c.store.new.state) (ap plain_of c.in-Store.is)
    (λ p q m me. store_is p q m me _ _) (sym c.in_default.is ∙ c.check_plain.ensures.wrong) (Ok c.store.result) c.store.ensures

pub returns-in-Pop-clause-ok : goal.returns-in-Pop-clause-ok
returns-in-Pop-clause-ok c =
    plays_so c.args.linked.now (state_of c.args.state.now) (state_of c.pop.new.state) (ap plain_of c.in-Pop.is) pop_is
    (sym c.in_default.is ∙ c.check_plain.ensures.wrong) (Ok c.pop.result) c.pop.ensures

pub returns-in-Double-clause-ok : goal.returns-in-Double-clause-ok
returns-in-Double-clause-ok c =
    plays_so c.args.linked.now (state_of c.args.state.now) (state_of c.double.new.state) (ap plain_of c.in-Double.is) double_is
    (sym c.in_default.is ∙ c.check_plain.ensures.wrong) (Ok c.double.result) c.double.ensures

pub returns-in-Swap-clause-ok : goal.returns-in-Swap-clause-ok
returns-in-Swap-clause-ok c =
    plays_so c.args.linked.now (state_of c.args.state.now) (state_of c.swap.new.state) (ap plain_of c.in-Swap.is) swap_is
    (sym c.in_default.is ∙ c.check_plain.ensures.wrong) (Ok c.swap.result) c.swap.ensures

pub returns-in-Compute-clause-ok : goal.returns-in-Compute-clause-ok
returns-in-Compute-clause-ok c =
    plays_so c.args.linked.now (state_of c.args.state.now) (state_of c.compute.new.state) (ap plain_of c.in-Compute.is)
    (λ p q m me. compute_is p q m me _) (sym c.in_default.is ∙ c.check_plain.ensures.wrong) (Ok c.compute.result) c.compute.ensures

pub returns-in-Negate-clause-ok : goal.returns-in-Negate-clause-ok
returns-in-Negate-clause-ok c =
    plays_so c.args.linked.now (state_of c.args.state.now) (state_of c.negate.new.state) (ap plain_of c.in-Negate.is) negate_is
    (sym c.in_default.is ∙ c.check_plain.ensures.wrong) (Ok c.negate.result) c.negate.ensures

pub returns-in-Increase-clause-ok : goal.returns-in-Increase-clause-ok
returns-in-Increase-clause-ok c =
    plays_so c.args.linked.now (state_of c.args.state.now) (state_of c.increase.new.state) (ap plain_of c.in-Increase.is)
    (λ p q m me. increase_is p q m me _ _) (sym c.in_default.is ∙ c.check_plain.ensures.wrong) (Ok c.increase.result) c.increase.ensures

pub returns-in-IfZero-clause-ok : goal.returns-in-IfZero-clause-ok
returns-in-IfZero-clause-ok c =
    plays_so c.args.linked.now (state_of c.args.state.now) (state_of c.jump_on_zero.new.state) (ap plain_of c.in-IfZero.is)
    (λ p q m me. if_zero_is p q m me _ _) (sym c.in_default.is ∙ c.check_plain.ensures.wrong) (Ok c.jump_on_zero.result)
    c.jump_on_zero.ensures

pub returns-in-IfBoth-clause-ok : goal.returns-in-IfBoth-clause-ok
returns-in-IfBoth-clause-ok c =
    plays_so c.args.linked.now (state_of c.args.state.now) (state_of c.jump_on_both.new.state) (ap plain_of c.in-IfBoth.is)
    (λ p q m me. if_both_is p q m me _ _) (sym c.in_default.is ∙ c.check_plain.ensures.wrong) (Ok c.jump_on_both.result)
    c.jump_on_both.ensures

pub returns-in-IfNull-clause-ok : goal.returns-in-IfNull-clause-ok
returns-in-IfNull-clause-ok c =
    plays_so c.args.linked.now (state_of c.args.state.now) (state_of c.jump_on_null.new.state) (ap plain_of c.in-IfNull.is)
    (λ p q m me. if_null_is p q m me _ _) (sym c.in_default.is ∙ c.check_plain.ensures.wrong) (Ok c.jump_on_null.result)
    c.jump_on_null.ensures

pub returns-in-Go-clause-ok : goal.returns-in-Go-clause-ok
returns-in-Go-clause-ok c =
    plays_so c.args.linked.now (state_of c.args.state.now) (state_of c.jump.new.state) (ap plain_of c.in-Go.is)
    (λ p q m me. go_is p q m me _) (sym c.in_default.is ∙ c.check_plain.ensures.wrong) (Ok c.jump.result) c.jump.ensures

pub returns-in-Switch-clause-ok : goal.returns-in-Switch-clause-ok
returns-in-Switch-clause-ok c =
    plays_so c.args.linked.now (state_of c.args.state.now) (state_of c.switch.new.state) (ap plain_of c.in-Switch.is)
    (λ p q m me. switch_is p q m me _ _ _) (sym c.in_default.is ∙ c.check_plain.ensures.wrong) (Ok c.switch.result) c.switch.ensures

pub push_constant-requires-clause-room : goal.push_constant-requires-clause-room
push_constant-requires-clause-room c =
    let p = c.args.linked.now in
    let m = state_of c.args.state.now in
    let right = room_in p (needs p m (plain_of c.args.plain)) m (sym c.in_default.is ∙ c.check_plain.ensures.wrong) in
    omega (arith, rw c.in-Push.is at right.1, c.check_plain.ensures.small)

pub load-requires-clause-room : goal.load-requires-clause-room
load-requires-clause-room c =
    let p = c.args.linked.now in
    let m = state_of c.args.state.now in
    let right = room_in p (needs p m (plain_of c.args.plain)) m (sym c.in_default.is ∙ c.check_plain.ensures.wrong) in
    omega (arith, rw c.in-Load.is at right.1, c.check_plain.ensures.small)

pub double-requires-clause-room : goal.double-requires-clause-room
double-requires-clause-room c =
    let p = c.args.linked.now in
    let m = state_of c.args.state.now in
    let right = room_in p (needs p m (plain_of c.args.plain)) m (sym c.in_default.is ∙ c.check_plain.ensures.wrong) in
    omega (arith, rw c.in-Double.is at right.1, c.check_plain.ensures.small)

pub swap-requires-clause-room : goal.swap-requires-clause-room
swap-requires-clause-room c =
    let p = c.args.linked.now in
    let m = state_of c.args.state.now in
    let right = room_in p (needs p m (plain_of c.args.plain)) m (sym c.in_default.is ∙ c.check_plain.ensures.wrong) in
    omega (arith, rw c.in-Swap.is at right.1, c.check_plain.ensures.small)
