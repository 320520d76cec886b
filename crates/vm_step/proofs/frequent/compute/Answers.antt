use Rattle.std.proofs.Common.{◌≡◌, ◌+◌, ◌++◌, ◌∷◌, [], arith, sym, ◌∙◌, to_z}
use Rattle.std.proofs.Common.{of_z}
use Rattle.std.proofs.lemmas.Int.{to_z-of_z}
use mir.Syntax.{w32}
use Rattle.vm_model.specs.declared.value.Value.TheVariants as values
use Rattle.vm_model.specs.Machine.{Machine}
use Rattle.vm_model.specs.Tests.{below}
use Rattle.vm_model.specs.Arithmetic.{computed}
use Rattle.vm_model.specs.Step.{at_place}
use Rattle.vm_session.specs.State.{state_of}
use Rattle.vm_actions.specs.Table.{operation_of}
use Rattle.vm_step.proofs.Ready.{compute_alone}
use Rattle.vm_step.proofs.frequent.compute.Goals as goal

pub returns : goal.returns
returns c =
    let m : Machine = state_of c.args.state.now in
    let e : to_z w32 (of_z w32 c.in-Some.x) ≡ c.in-Some.x = grind (arith, to_z-of_z) in
    let f : to_z w32 (of_z w32 c.in-Some-int_at.y) ≡ c.in-Some-int_at.y = grind (arith, to_z-of_z) in
    let g : to_z w32 (of_z w32 c.in-Some-computed.z) ≡ c.in-Some-computed.z = grind (arith, to_z-of_z) in
    compute_alone c.args.max m (state_of c.put.new.self) (omega arith) c.in-Some.x c.in-Some-int_at.y
    (sym c.in-Some.is ∙ c.int_at.ensures) (sym c.in-Some-int_at.is ∙ c.int_at-2.ensures)
    (operation_of c.args.operation) c.in-Some-computed.z
    (sym c.in-Some-computed.is ∙ c.computed.ensures ∙ (λ i. computed (operation_of c.args.operation) (e i) (f i))) (omega arith)
    (c.put.ensures.machine ∙ (λ i. at_place m (c.place-place.ensures i + 1) (below 2 m.frame.operands ++ values.Int (g i) ∷ [])))
