use Rattle.std.proofs.Common.{◌≡◌, ◌+◌, ◌++◌, ◌∷◌, [], sym, ◌∙◌, to_z, of_z, arith}
use Rattle.std.proofs.lemmas.Int.{to_z-of_z}
use mir.Syntax.{w32}
use Rattle.vm_model.specs.declared.value.Value.TheVariants as values
use Rattle.vm_model.specs.Machine.{Machine}
use Rattle.vm_model.specs.Tests.{below}
use Rattle.vm_model.specs.Arithmetic.{computed}
use Rattle.vm_model.specs.Step.{at_place}
use Rattle.vm_session.specs.State.{state_of}
use Rattle.vm_actions.specs.Table.{operation_of}
use Rattle.vm_typed.proofs.Taken.{compute_some, compute_ints, computes_to, never_none}
use Rattle.vm_typed.proofs.within.compute.Goals as goal

pub int_at-requires : goal.int_at-requires
int_at-requires c = compute_some c.args.linked.now (state_of c.args.state.now) (operation_of c.args.operation) c.requires.next

pub unreachable-requires : goal.unreachable-requires
unreachable-requires c =
    let ints = compute_ints c.args.linked.now (state_of c.args.state.now) (operation_of c.args.operation) c.requires.next in
    never_none c.in_default.is (c.int_at.ensures ∙ ints.0.1)

pub unreachable-requires-in_default-int_at : goal.unreachable-requires-in_default-int_at
unreachable-requires-in_default-int_at c =
    let ints = compute_ints c.args.linked.now (state_of c.args.state.now) (operation_of c.args.operation) c.requires.next in
    never_none c.in_default-int_at.is (c.int_at-2.ensures ∙ ints.1.1)

pub put-requires-clause-within : goal.put-requires-clause-within
put-requires-clause-within c = compute_some c.args.linked.now (state_of c.args.state.now) (operation_of c.args.operation) c.requires.next

pub returns : goal.returns
returns c =
    let m : Machine = state_of c.args.state.now in
    let e : to_z w32 (of_z w32 c.in-Some.x) ≡ c.in-Some.x = grind (arith, to_z-of_z) in
    let f : to_z w32 (of_z w32 c.in-Some-int_at.y) ≡ c.in-Some-int_at.y = grind (arith, to_z-of_z) in
    let g : to_z w32 (of_z w32 c.in-Some-computed.z) ≡ c.in-Some-computed.z = grind (arith, to_z-of_z) in
    computes_to c.args.linked.now m (state_of c.put.new.self) (operation_of c.args.operation) c.in-Some.x c.in-Some-int_at.y
    c.in-Some-computed.z c.requires.next (sym c.in-Some.is ∙ c.int_at.ensures) (sym c.in-Some-int_at.is ∙ c.int_at-2.ensures)
    (sym c.in-Some-computed.is ∙ c.computed.ensures ∙ (λ i. computed (operation_of c.args.operation) (e i) (f i)))
    (c.put.ensures.machine ∙ (λ i. at_place m (c.place-place.ensures i + 1) (below 2 m.frame.operands ++ values.Int (g i) ∷ [])))
