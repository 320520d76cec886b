use Rattle.std.proofs.Common.{◌≡◌, ◌+◌, ◌++◌, ◌∷◌, [], sym, ap, ◌∙◌, to_z, of_z, arith}
use Rattle.std.proofs.lemmas.Int.{to_z-of_z}
use Rattle.std.specs.Prelude.{neg_ℤ}
use mir.Syntax.{w32}
use Rattle.vm_model.specs.declared.value.Value.TheVariants as values
use Rattle.vm_model.specs.Machine.{Machine}
use Rattle.vm_model.specs.Tests.{below}
use Rattle.vm_model.specs.Arithmetic.{wrap}
use Rattle.vm_model.specs.Step.{at_place}
use Rattle.vm_session.specs.State.{state_of}
use Rattle.vm_typed.proofs.Taken.{negate_some, negate_int, negates_to, never_none}
use Rattle.vm_typed.proofs.within.negate.Goals as goal

pub int_at-requires : goal.int_at-requires
int_at-requires c = negate_some c.args.linked.now (state_of c.args.state.now) c.requires.next

pub unreachable-requires : goal.unreachable-requires
unreachable-requires c =
    let int = negate_int c.args.linked.now (state_of c.args.state.now) c.requires.next in
    never_none c.in_default.is (c.int_at.ensures ∙ int.1)

pub returns : goal.returns
returns c =
    let m : Machine = state_of c.args.state.now in
    let e : to_z w32 (of_z w32 c.in-Some.x) ≡ c.in-Some.x = grind (arith, to_z-of_z) in
    let g : to_z w32 (of_z w32 c.negated.result) ≡ c.negated.result = grind (arith, to_z-of_z) in
    negates_to c.args.linked.now m (state_of c.put.new.self) c.in-Some.x c.requires.next (sym c.in-Some.is ∙ c.int_at.ensures)
    (c.put.ensures.machine ∙ (λ i. at_place m (c.place-place.ensures i + 1)
    (below 1 m.frame.operands ++ values.Int ((g ∙ c.negated.ensures ∙ ap (λ z. wrap (neg_ℤ z)) e) i) ∷ [])))
