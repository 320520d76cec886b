use Rattle.std.proofs.Common.{◌≡◌, ◌+◌, Bool, arith, sym, ap, ◌∙◌, to_z}
use Rattle.std.proofs.Common.{of_z}
use Rattle.std.proofs.lemmas.Int.{to_z-of_z}
use Rattle.std.specs.Prelude.{if◌then◌else◌}
use mir.Syntax.{w32}
use Rattle.vm_model.specs.Arithmetic.{compares}
use Rattle.vm_session.specs.State.{state_of}
use Rattle.vm_actions.specs.Table.{comparison_of}
use Rattle.vm_step.proofs.Ready.{if_both_alone}
use Rattle.vm_step.proofs.frequent.jump_on_both.Goals as goal

pub returns : goal.returns
returns c =
    let e : to_z w32 (of_z w32 c.in-Some.x) ≡ c.in-Some.x = grind (arith, to_z-of_z) in
    let f : to_z w32 (of_z w32 c.in-Some-int_at.y) ≡ c.in-Some-int_at.y = grind (arith, to_z-of_z) in
    if_both_alone c.args.max (state_of c.args.state.now) (state_of c.drop.new.self) (omega arith) c.in-Some.x c.in-Some-int_at.y
    (sym c.in-Some.is ∙ c.int_at.ensures) (sym c.in-Some-int_at.is ∙ c.int_at-2.ensures)
    (comparison_of c.args.comparison) c.args.target c.place_after-place.result (omega arith)
    (c.place_after-place.ensures ∙ ap (λ (b : Bool). if b then c.args.target else (state_of c.args.state.now).frame.place + 1)
    (c.compares.ensures ∙ (λ i. compares (comparison_of c.args.comparison) (e i) (f i)))) c.drop.ensures.machine
