use Rattle.std.proofs.Common.{◌≡◌, arith, sym, ◌∙◌, to_z}
use Rattle.std.proofs.Common.{of_z}
use Rattle.std.proofs.lemmas.Int.{to_z-of_z}
use mir.Syntax.{w32}
use Rattle.vm_model.specs.Arithmetic.{switched}
use Rattle.vm_session.specs.State.{state_of}
use Rattle.vm_step.proofs.Ready.{switch_alone}
use Rattle.vm_step.proofs.frequent.switch.Goals as goal

pub returns : goal.returns
returns c =
    let e : to_z w32 (of_z w32 c.in-Some.x) ≡ c.in-Some.x = grind (arith, to_z-of_z) in
    let g : to_z w32 (of_z w32 c.args.low.now) ≡ c.args.low.now = grind (arith, to_z-of_z) in
    switch_alone c.args.max (state_of c.args.state.now) (state_of c.drop.new.self) (omega arith) c.in-Some.x
    (sym c.in-Some.is ∙ c.int_at.ensures)
    c.args.default c.args.low.now c.args.targets.now c.switched.result (omega arith)
    (c.switched.ensures ∙ (λ i. switched c.args.default (g i) c.args.targets.now (e i))) c.drop.ensures.machine
