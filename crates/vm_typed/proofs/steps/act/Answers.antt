use Rattle.std.proofs.Common.{◌≡◌, true, false, Some, None, refl, sym, ap, subst, to_z, of_z, arith}
use Rattle.std.proofs.lemmas.Int.{to_z-of_z}
use Rattle.std.specs.Option.{option_map}
use mir.Syntax.{w8, w32}
use Rattle.vm_model.specs.declared.value.Value.TheVariants as values
use Rattle.vm_model.specs.Actions.{Push, Load, Store, Pop, Double, Swap, Compute, Plus, Minus, Times, Divide, Remain, Negate, Increase}
use Rattle.vm_model.specs.Actions.{IfZero, IfBoth, Equal, Unequal, Less, AtLeast, Greater, AtMost, IfNull, Go, Return, Read, Write, Call}
use Rattle.vm_model.specs.declared.linked.Built.TheVariants as builts
use Rattle.vm_model.specs.Actions.{Static, Silent, Use}
use Rattle.vm_session.specs.State.{state_of}
use Rattle.vm_actions.specs.Table.{sort_of}
use Rattle.vm_flat.specs.Flat.{action_of_flat}
use Rattle.vm_typed.specs.Next.{IsNext}
use Rattle.vm_typed.proofs.Flatly.{kept_on, kept_so}
use Rattle.vm_typed.proofs.steps.act.Goals as goal

pub push-requires-clause-next : goal.push-requires-clause-next
push-requires-clause-next c =
    let e : to_z w32 (of_z w32 c.in-Int.x) ≡ c.in-Int.x = grind (arith, to_z-of_z) in
    subst (λ z. IsNext c.args.linked.now (state_of c.args.state.now) (Push (values.Int z))) (sym e)
    (c.requires.next (Push (values.Int c.in-Int.x)) (ap action_of_flat c.in-Int.is))

pub returns-in-Int : goal.returns-in-Int
returns-in-Int c = kept_on c.args.linked.now (state_of c.args.state.now) c.args.code.now c.requires.runs
    (state_of c.push.new.state) c.push.ensures

pub push-requires-in-Null-clause-next : goal.push-requires-in-Null-clause-next
push-requires-in-Null-clause-next c = c.requires.next (Push values.Null) (ap action_of_flat c.in-Null.is)

pub returns-in-Null : goal.returns-in-Null
returns-in-Null c = kept_on c.args.linked.now (state_of c.args.state.now) c.args.code.now c.requires.runs
    (state_of c.push-in-Null.new.state) c.push-in-Null.ensures

pub load-requires-clause-next : goal.load-requires-clause-next
load-requires-clause-next c = c.requires.next (Load (sort_of c.in-Load.sort) c.in-Load.local) (ap action_of_flat c.in-Load.is)

pub returns-in-Load : goal.returns-in-Load
returns-in-Load c = kept_on c.args.linked.now (state_of c.args.state.now) c.args.code.now c.requires.runs
    (state_of c.load.new.state) c.load.ensures

pub store-requires-clause-next : goal.store-requires-clause-next
store-requires-clause-next c = c.requires.next (Store (sort_of c.in-Store.sort) c.in-Store.local) (ap action_of_flat c.in-Store.is)

pub returns-in-Store : goal.returns-in-Store
returns-in-Store c = kept_on c.args.linked.now (state_of c.args.state.now) c.args.code.now c.requires.runs
    (state_of c.store.new.state) c.store.ensures

pub pop-requires-clause-next : goal.pop-requires-clause-next
pop-requires-clause-next c = c.requires.next Pop (ap action_of_flat c.in-Pop.is)

pub returns-in-Pop : goal.returns-in-Pop
returns-in-Pop c = kept_on c.args.linked.now (state_of c.args.state.now) c.args.code.now c.requires.runs
    (state_of c.pop.new.state) c.pop.ensures

pub double-requires-clause-next : goal.double-requires-clause-next
double-requires-clause-next c = c.requires.next Double (ap action_of_flat c.in-Double.is)

pub returns-in-Double : goal.returns-in-Double
returns-in-Double c = kept_on c.args.linked.now (state_of c.args.state.now) c.args.code.now c.requires.runs
    (state_of c.double.new.state) c.double.ensures

pub swap-requires-clause-next : goal.swap-requires-clause-next
swap-requires-clause-next c = c.requires.next Swap (ap action_of_flat c.in-Swap.is)

pub returns-in-Swap : goal.returns-in-Swap
returns-in-Swap c = kept_on c.args.linked.now (state_of c.args.state.now) c.args.code.now c.requires.runs
    (state_of c.swap.new.state) c.swap.ensures

pub compute-requires-clause-next : goal.compute-requires-clause-next
compute-requires-clause-next c = c.requires.next (Compute Plus) (ap action_of_flat c.in-Plus.is)

pub returns-in-Plus : goal.returns-in-Plus
returns-in-Plus c = kept_so c.args.linked.now (state_of c.args.state.now) c.args.code.now c.requires.runs
    (state_of c.compute.new.state) c.compute.result (option_map (λ x. x.now) c.kept.result) c.kept.ensures c.compute.ensures

pub compute-requires-in-Minus-clause-next : goal.compute-requires-in-Minus-clause-next
compute-requires-in-Minus-clause-next c = c.requires.next (Compute Minus) (ap action_of_flat c.in-Minus.is)

pub returns-in-Minus : goal.returns-in-Minus
returns-in-Minus c = kept_so c.args.linked.now (state_of c.args.state.now) c.args.code.now c.requires.runs
    (state_of c.compute-in-Minus.new.state)
    c.compute-in-Minus.result (option_map (λ x. x.now) c.kept-in-Minus.result) c.kept-in-Minus.ensures c.compute-in-Minus.ensures

pub compute-requires-in-Times-clause-next : goal.compute-requires-in-Times-clause-next
compute-requires-in-Times-clause-next c = c.requires.next (Compute Times) (ap action_of_flat c.in-Times.is)

pub returns-in-Times : goal.returns-in-Times
returns-in-Times c = kept_so c.args.linked.now (state_of c.args.state.now) c.args.code.now c.requires.runs
    (state_of c.compute-in-Times.new.state)
    c.compute-in-Times.result (option_map (λ x. x.now) c.kept-in-Times.result) c.kept-in-Times.ensures c.compute-in-Times.ensures

pub compute-requires-in-Divide-clause-next : goal.compute-requires-in-Divide-clause-next
compute-requires-in-Divide-clause-next c = c.requires.next (Compute Divide) (ap action_of_flat c.in-Divide.is)

pub returns-in-Divide : goal.returns-in-Divide
returns-in-Divide c = kept_so c.args.linked.now (state_of c.args.state.now) c.args.code.now c.requires.runs
    (state_of c.compute-in-Divide.new.state)
    c.compute-in-Divide.result (option_map (λ x. x.now) c.kept-in-Divide.result) c.kept-in-Divide.ensures c.compute-in-Divide.ensures

pub compute-requires-in-Remain-clause-next : goal.compute-requires-in-Remain-clause-next
compute-requires-in-Remain-clause-next c = c.requires.next (Compute Remain) (ap action_of_flat c.in-Remain.is)

pub returns-in-Remain : goal.returns-in-Remain
returns-in-Remain c = kept_so c.args.linked.now (state_of c.args.state.now) c.args.code.now c.requires.runs
    (state_of c.compute-in-Remain.new.state)
    c.compute-in-Remain.result (option_map (λ x. x.now) c.kept-in-Remain.result) c.kept-in-Remain.ensures c.compute-in-Remain.ensures

pub negate-requires-clause-next : goal.negate-requires-clause-next
negate-requires-clause-next c = c.requires.next Negate (ap action_of_flat c.in-Negate.is)

pub returns-in-Negate : goal.returns-in-Negate
returns-in-Negate c = kept_on c.args.linked.now (state_of c.args.state.now) c.args.code.now c.requires.runs
    (state_of c.negate.new.state) c.negate.ensures

pub increase-requires-clause-next : goal.increase-requires-clause-next
increase-requires-clause-next c =
    let e : to_z w8 (of_z w8 c.in-Increase.by) ≡ c.in-Increase.by = grind (arith, to_z-of_z) in
    subst (λ z. IsNext c.args.linked.now (state_of c.args.state.now) (Increase c.in-Increase.local z)) (sym e)
    (c.requires.next (Increase c.in-Increase.local c.in-Increase.by) (ap action_of_flat c.in-Increase.is))

pub returns-in-Increase : goal.returns-in-Increase
returns-in-Increase c = kept_on c.args.linked.now (state_of c.args.state.now) c.args.code.now c.requires.runs
    (state_of c.increase.new.state) c.increase.ensures

pub jump_on_zero-requires-clause-next : goal.jump_on_zero-requires-clause-next
jump_on_zero-requires-clause-next c = c.requires.next (IfZero Equal c.in-IfZeroEqual.target) (ap action_of_flat c.in-IfZeroEqual.is)

pub returns-in-IfZeroEqual : goal.returns-in-IfZeroEqual
returns-in-IfZeroEqual c = kept_on c.args.linked.now (state_of c.args.state.now) c.args.code.now c.requires.runs
    (state_of c.jump_on_zero.new.state) c.jump_on_zero.ensures

pub jump_on_zero-requires-in-IfZeroUnequal-clause-next : goal.jump_on_zero-requires-in-IfZeroUnequal-clause-next
jump_on_zero-requires-in-IfZeroUnequal-clause-next c =
    c.requires.next (IfZero Unequal c.in-IfZeroUnequal.target) (ap action_of_flat c.in-IfZeroUnequal.is)

pub returns-in-IfZeroUnequal : goal.returns-in-IfZeroUnequal
returns-in-IfZeroUnequal c = kept_on c.args.linked.now (state_of c.args.state.now) c.args.code.now c.requires.runs
    (state_of c.jump_on_zero-in-IfZeroUnequal.new.state) c.jump_on_zero-in-IfZeroUnequal.ensures

pub jump_on_zero-requires-in-IfZeroLess-clause-next : goal.jump_on_zero-requires-in-IfZeroLess-clause-next
jump_on_zero-requires-in-IfZeroLess-clause-next c =
    c.requires.next (IfZero Less c.in-IfZeroLess.target) (ap action_of_flat c.in-IfZeroLess.is)

pub returns-in-IfZeroLess : goal.returns-in-IfZeroLess
returns-in-IfZeroLess c = kept_on c.args.linked.now (state_of c.args.state.now) c.args.code.now c.requires.runs
    (state_of c.jump_on_zero-in-IfZeroLess.new.state) c.jump_on_zero-in-IfZeroLess.ensures

pub jump_on_zero-requires-in-IfZeroAtLeast-clause-next : goal.jump_on_zero-requires-in-IfZeroAtLeast-clause-next
jump_on_zero-requires-in-IfZeroAtLeast-clause-next c =
    c.requires.next (IfZero AtLeast c.in-IfZeroAtLeast.target) (ap action_of_flat c.in-IfZeroAtLeast.is)

pub returns-in-IfZeroAtLeast : goal.returns-in-IfZeroAtLeast
returns-in-IfZeroAtLeast c = kept_on c.args.linked.now (state_of c.args.state.now) c.args.code.now c.requires.runs
    (state_of c.jump_on_zero-in-IfZeroAtLeast.new.state) c.jump_on_zero-in-IfZeroAtLeast.ensures

pub jump_on_zero-requires-in-IfZeroGreater-clause-next : goal.jump_on_zero-requires-in-IfZeroGreater-clause-next
jump_on_zero-requires-in-IfZeroGreater-clause-next c =
    c.requires.next (IfZero Greater c.in-IfZeroGreater.target) (ap action_of_flat c.in-IfZeroGreater.is)

pub returns-in-IfZeroGreater : goal.returns-in-IfZeroGreater
returns-in-IfZeroGreater c = kept_on c.args.linked.now (state_of c.args.state.now) c.args.code.now c.requires.runs
    (state_of c.jump_on_zero-in-IfZeroGreater.new.state) c.jump_on_zero-in-IfZeroGreater.ensures

pub jump_on_zero-requires-in-IfZeroAtMost-clause-next : goal.jump_on_zero-requires-in-IfZeroAtMost-clause-next
jump_on_zero-requires-in-IfZeroAtMost-clause-next c =
    c.requires.next (IfZero AtMost c.in-IfZeroAtMost.target) (ap action_of_flat c.in-IfZeroAtMost.is)

pub returns-in-IfZeroAtMost : goal.returns-in-IfZeroAtMost
returns-in-IfZeroAtMost c = kept_on c.args.linked.now (state_of c.args.state.now) c.args.code.now c.requires.runs
    (state_of c.jump_on_zero-in-IfZeroAtMost.new.state) c.jump_on_zero-in-IfZeroAtMost.ensures

pub jump_on_both-requires-clause-next : goal.jump_on_both-requires-clause-next
jump_on_both-requires-clause-next c = c.requires.next (IfBoth Equal c.in-IfBothEqual.target) (ap action_of_flat c.in-IfBothEqual.is)

pub returns-in-IfBothEqual : goal.returns-in-IfBothEqual
returns-in-IfBothEqual c = kept_on c.args.linked.now (state_of c.args.state.now) c.args.code.now c.requires.runs
    (state_of c.jump_on_both.new.state) c.jump_on_both.ensures

pub jump_on_both-requires-in-IfBothUnequal-clause-next : goal.jump_on_both-requires-in-IfBothUnequal-clause-next
jump_on_both-requires-in-IfBothUnequal-clause-next c =
    c.requires.next (IfBoth Unequal c.in-IfBothUnequal.target) (ap action_of_flat c.in-IfBothUnequal.is)

pub returns-in-IfBothUnequal : goal.returns-in-IfBothUnequal
returns-in-IfBothUnequal c = kept_on c.args.linked.now (state_of c.args.state.now) c.args.code.now c.requires.runs
    (state_of c.jump_on_both-in-IfBothUnequal.new.state) c.jump_on_both-in-IfBothUnequal.ensures

pub jump_on_both-requires-in-IfBothLess-clause-next : goal.jump_on_both-requires-in-IfBothLess-clause-next
jump_on_both-requires-in-IfBothLess-clause-next c =
    c.requires.next (IfBoth Less c.in-IfBothLess.target) (ap action_of_flat c.in-IfBothLess.is)

pub returns-in-IfBothLess : goal.returns-in-IfBothLess
returns-in-IfBothLess c = kept_on c.args.linked.now (state_of c.args.state.now) c.args.code.now c.requires.runs
    (state_of c.jump_on_both-in-IfBothLess.new.state) c.jump_on_both-in-IfBothLess.ensures

pub jump_on_both-requires-in-IfBothAtLeast-clause-next : goal.jump_on_both-requires-in-IfBothAtLeast-clause-next
jump_on_both-requires-in-IfBothAtLeast-clause-next c =
    c.requires.next (IfBoth AtLeast c.in-IfBothAtLeast.target) (ap action_of_flat c.in-IfBothAtLeast.is)

pub returns-in-IfBothAtLeast : goal.returns-in-IfBothAtLeast
returns-in-IfBothAtLeast c = kept_on c.args.linked.now (state_of c.args.state.now) c.args.code.now c.requires.runs
    (state_of c.jump_on_both-in-IfBothAtLeast.new.state) c.jump_on_both-in-IfBothAtLeast.ensures

pub jump_on_both-requires-in-IfBothGreater-clause-next : goal.jump_on_both-requires-in-IfBothGreater-clause-next
jump_on_both-requires-in-IfBothGreater-clause-next c =
    c.requires.next (IfBoth Greater c.in-IfBothGreater.target) (ap action_of_flat c.in-IfBothGreater.is)

pub returns-in-IfBothGreater : goal.returns-in-IfBothGreater
returns-in-IfBothGreater c = kept_on c.args.linked.now (state_of c.args.state.now) c.args.code.now c.requires.runs
    (state_of c.jump_on_both-in-IfBothGreater.new.state) c.jump_on_both-in-IfBothGreater.ensures

pub jump_on_both-requires-in-IfBothAtMost-clause-next : goal.jump_on_both-requires-in-IfBothAtMost-clause-next
jump_on_both-requires-in-IfBothAtMost-clause-next c =
    c.requires.next (IfBoth AtMost c.in-IfBothAtMost.target) (ap action_of_flat c.in-IfBothAtMost.is)

pub returns-in-IfBothAtMost : goal.returns-in-IfBothAtMost
returns-in-IfBothAtMost c = kept_on c.args.linked.now (state_of c.args.state.now) c.args.code.now c.requires.runs
    (state_of c.jump_on_both-in-IfBothAtMost.new.state) c.jump_on_both-in-IfBothAtMost.ensures

pub jump_on_null-requires-clause-next : goal.jump_on_null-requires-clause-next
jump_on_null-requires-clause-next c = c.requires.next (IfNull true c.in-IfNull.target) (ap action_of_flat c.in-IfNull.is)

pub returns-in-IfNull : goal.returns-in-IfNull
returns-in-IfNull c = kept_on c.args.linked.now (state_of c.args.state.now) c.args.code.now c.requires.runs
    (state_of c.jump_on_null.new.state) c.jump_on_null.ensures

pub jump_on_null-requires-in-IfNotNull-clause-next : goal.jump_on_null-requires-in-IfNotNull-clause-next
jump_on_null-requires-in-IfNotNull-clause-next c =
    c.requires.next (IfNull false c.in-IfNotNull.target) (ap action_of_flat c.in-IfNotNull.is)

pub returns-in-IfNotNull : goal.returns-in-IfNotNull
returns-in-IfNotNull c = kept_on c.args.linked.now (state_of c.args.state.now) c.args.code.now c.requires.runs
    (state_of c.jump_on_null-in-IfNotNull.new.state) c.jump_on_null-in-IfNotNull.ensures

pub jump-requires : goal.jump-requires
jump-requires c = record { next = c.requires.next (Go c.in-Go.target) (ap action_of_flat c.in-Go.is) }

pub returns-in-Go : goal.returns-in-Go
returns-in-Go c = kept_on c.args.linked.now (state_of c.args.state.now) c.args.code.now c.requires.runs
    (state_of c.jump.new.state) c.jump.ensures

pub return_nothing-requires-clause-next : goal.return_nothing-requires-clause-next
return_nothing-requires-clause-next c = c.requires.next (Return None) (ap action_of_flat c.in-ReturnNothing.is)

pub return_value-requires-clause-next : goal.return_value-requires-clause-next
return_value-requires-clause-next c = c.requires.next (Return (Some (sort_of c.in-Return.sort))) (ap action_of_flat c.in-Return.is)

pub read-requires-clause-next : goal.read-requires-clause-next
read-requires-clause-next c = c.requires.next (Read c.in-Read.class c.in-Read.field) (ap action_of_flat c.in-Read.is)

pub returns-in-Read : goal.returns-in-Read
returns-in-Read c = kept_so c.args.linked.now (state_of c.args.state.now) c.args.code.now c.requires.runs
    (state_of c.read.new.state) c.read.result (option_map (λ x. x.now) c.kept-in-Read.result) c.kept-in-Read.ensures c.read.ensures

pub write-requires-clause-next : goal.write-requires-clause-next
write-requires-clause-next c = c.requires.next (Write c.in-Write.class c.in-Write.field) (ap action_of_flat c.in-Write.is)

pub returns-in-Write : goal.returns-in-Write
returns-in-Write c = kept_so c.args.linked.now (state_of c.args.state.now) c.args.code.now c.requires.runs
    (state_of c.write.new.state) c.write.result (option_map (λ x. x.now) c.kept-in-Write.result) c.kept-in-Write.ensures c.write.ensures

pub call_static-requires-clause-next : goal.call_static-requires-clause-next
call_static-requires-clause-next c =
    c.requires.next (Call Static c.in-CallStatic.class c.in-CallStatic.method) (ap action_of_flat c.in-CallStatic.is)

pub call_silent-requires-clause-next : goal.call_silent-requires-clause-next
call_silent-requires-clause-next c =
    c.requires.next (Call Silent c.in-CallSilent.class c.in-CallSilent.method) (ap action_of_flat c.in-CallSilent.is)

pub returns-in-ReturnNothing : goal.returns-in-ReturnNothing
returns-in-ReturnNothing c = c.return_nothing.ensures

pub returns-in-Return : goal.returns-in-Return
returns-in-Return c = c.return_value.ensures

pub returns-in-CallStatic : goal.returns-in-CallStatic
returns-in-CallStatic c = c.call_static.ensures

pub returns-in-CallSilent : goal.returns-in-CallSilent
returns-in-CallSilent c = c.call_silent.ensures

pub push_out-requires-clause-next : goal.push_out-requires-clause-next
push_out-requires-clause-next c = c.requires.next (Use builts.Out) (ap action_of_flat c.in-Out.is)

pub returns-in-Out : goal.returns-in-Out
returns-in-Out c = kept_on c.args.linked.now (state_of c.args.state.now) c.args.code.now c.requires.runs
    (state_of c.push_out.new.state) c.push_out.ensures

pub returns-in-Other : goal.returns-in-Other
returns-in-Other c = refl
