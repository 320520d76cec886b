use Rattle.std.proofs.Common.{◌≡◌, ◌++◌, ◌∷◌, [], Ok, arith, refl, sym, ap, to_z, of_z}
use Rattle.std.proofs.lemmas.Int.{to_z-of_z}
use mir.Syntax.{w32}
use Rattle.vm_model.specs.declared.value.Value.TheVariants as values
use Rattle.vm_model.specs.Step.{goes, next}
use Rattle.vm_session.specs.State.{state_of, operands_of}
use Rattle.vm_step.proofs.Acts.{plays_same}
use Rattle.vm_step.proofs.plain.push_constant.Goals as goal

pub returns-in-Int-clause-ok : goal.returns-in-Int-clause-ok
returns-in-Int-clause-ok c =
    let m = state_of c.args.state.now in
    let e : to_z w32 (of_z w32 c.in-Int.x) ≡ c.in-Int.x = grind (arith, to_z-of_z) in
    plays_same m (state_of c.push.new.state) (Ok c.push.result) _ _
    (λ q. rw c.in-Int.is (ap (λ z. goes q (next m (operands_of c.args.state.now ++ values.Int z ∷ []))) (sym e))) c.push.ensures

pub returns-in-Null-clause-ok : goal.returns-in-Null-clause-ok
returns-in-Null-clause-ok c =
    plays_same (state_of c.args.state.now) (state_of c.push-in-Null.new.state) (Ok c.push-in-Null.result) _ _
    (λ q. rw c.in-Null.is refl) c.push-in-Null.ensures
