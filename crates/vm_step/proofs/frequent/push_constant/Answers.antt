use Rattle.std.proofs.Common.{◌≡◌, ◌++◌, ◌∷◌, [], arith, ap, ◌∙◌, to_z}
use Rattle.std.proofs.Common.{of_z}
use Rattle.std.proofs.lemmas.Int.{to_z-of_z}
use mir.Syntax.{w32}
use Rattle.vm_model.specs.declared.value.Value.TheVariants as values
use Rattle.vm_model.specs.Actions.{Push}
use Rattle.vm_model.specs.Step.{next}
use Rattle.vm_session.specs.State.{state_of, operands_of}
use Rattle.vm_step.proofs.Ready.{alone_if, push_alone}
use Rattle.vm_step.proofs.frequent.push_constant.Goals as goal

pub returns-in-Int : goal.returns-in-Int
returns-in-Int c =
    let e : to_z w32 (of_z w32 c.in-Int.x) ≡ c.in-Int.x = grind (arith, to_z-of_z) in
    rw c.in-Int.is
    (alone_if c.args.max (Push (values.Int c.in-Int.x)) (state_of c.args.state.now) (state_of c.push.new.state) c.push.result
    c.push.ensures.room c.push.ensures.yes c.push.ensures.no
    (λ room is. push_alone c.args.max (state_of c.args.state.now) (state_of c.push.new.state) (values.Int c.in-Int.x) room
    (is ∙ ap (λ z. next (state_of c.args.state.now) (operands_of c.args.state.now ++ values.Int z ∷ [])) e)))

pub returns-in-Null : goal.returns-in-Null
returns-in-Null c = rw c.in-Null.is
    (alone_if c.args.max (Push values.Null) (state_of c.args.state.now) (state_of c.push-in-Null.new.state) c.push-in-Null.result
    c.push-in-Null.ensures.room c.push-in-Null.ensures.yes c.push-in-Null.ensures.no
    (λ room is. push_alone c.args.max (state_of c.args.state.now) (state_of c.push-in-Null.new.state) values.Null room is))

pub returns-in-Some : goal.returns-in-Some
returns-in-Some c = rw c.in-Text.is
    (alone_if c.args.max (Push (values.Text c.in-Text.text.now.value)) (state_of c.args.state.now) (state_of c.push-in-Some.new.state)
    c.push-in-Some.result c.push-in-Some.ensures.room c.push-in-Some.ensures.yes c.push-in-Some.ensures.no
    (λ room is. push_alone c.args.max (state_of c.args.state.now) (state_of c.push-in-Some.new.state)
    (values.Text c.in-Text.text.now.value) room
    (is ∙ ap (λ t. next (state_of c.args.state.now) (operands_of c.args.state.now ++ values.Text t ∷ []))
    (c.in-Some.ensures.says ∙ c.as_ref.ensures))))
