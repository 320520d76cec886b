use Rattle.std.proofs.Common.{◌≡◌, ◌+◌, ◌++◌, ◌∷◌, [], arith, sym, ap, ◌∙◌, to_z}
use Rattle.std.proofs.Common.{of_z}
use Rattle.std.proofs.lemmas.Int.{to_z-of_z}
use Rattle.std.specs.Prelude.{neg_ℤ}
use mir.Syntax.{w32}
use Rattle.vm_model.specs.declared.value.Value.TheVariants as values
use Rattle.vm_model.specs.Machine.{Machine}
use Rattle.vm_model.specs.Tests.{below}
use Rattle.vm_model.specs.Arithmetic.{wrap}
use Rattle.vm_model.specs.Step.{at_place}
use Rattle.vm_session.specs.State.{state_of}
use Rattle.vm_step.proofs.Ready.{negate_alone}
use Rattle.vm_step.proofs.frequent.negate.Goals as goal

pub returns : goal.returns
returns c =
    let m : Machine = state_of c.args.state.now in
    let e : to_z w32 (of_z w32 c.in-Some.x) ≡ c.in-Some.x = grind (arith, to_z-of_z) in
    let g : to_z w32 (of_z w32 c.negated.result) ≡ c.negated.result = grind (arith, to_z-of_z) in
    negate_alone c.args.max m (state_of c.put.new.self) (omega arith) c.in-Some.x (sym c.in-Some.is ∙ c.int_at.ensures) (omega arith)
    (c.put.ensures.machine ∙ (λ i. at_place m (c.place-place.ensures i + 1)
    (below 1 m.frame.operands ++ values.Int ((g ∙ c.negated.ensures ∙ ap (λ z. wrap (neg_ℤ z)) e) i) ∷ [])))
