use Rattle.std.proofs.lemmas.Grind.{common_steps}
use Rattle.std.proofs.Common.{◌≡◌, ◌∙◌, ◌||◌, ◌≤◌, ℕ, length, ap, sym, arith}
use Rattle.std.proofs.lemmas.List.{length-map}
use Rattle.vm_model.specs.Tests as model
use Rattle.vm_session.specs.State.{state_of, operands_of}
use Rattle.vm_step.specs.Needing.{want_of, wants_of, needs_of}
use Rattle.vm_step.proofs.Testing.{wrong_is}
use Rattle.vm_step.proofs.needs.wrong.Goals as goal

pub returns : goal.returns
returns c =
    let p = c.args.linked.now in
    let m = state_of c.args.state.now in
    let takes = wants_of c.args.needs.now.takes.now in
    let reads = (needs_of c.args.needs.now).reads in
    let count : length takes ≡ length c.args.needs.now.takes.now = length-map c.args.needs.now.takes.now want_of in
    let within : length takes ≤ length (operands_of c.args.state.now) = omega (arith, count, c.if-depth-takes.false, c.depth.ensures) in
    c.judged.ensures
    ∙ wrong_is p (needs_of c.args.needs.now) m c.misfits-found.result.kind c.misfits-found.result.member within
    (c.misfits-found.ensures.kind
    ∙ ap (λ b. b || model.some_of model.is_kind
    (model.misfits p m.heap takes (model.on_top (length c.args.needs.now.takes.now) m.frame.operands)))
    (c.noted-read.ensures.kind ∙ ap model.is_kind c.misfit_read.ensures)
    ∙ ap (λ (k : ℕ). model.is_kind (model.misfit_read reads m.frame.locals) || model.some_of model.is_kind
    (model.misfits p m.heap takes (model.on_top k m.frame.operands))) (sym count))
    (c.misfits-found.ensures.member
    ∙ ap (λ b. b || model.some_of model.is_member
    (model.misfits p m.heap takes (model.on_top (length c.args.needs.now.takes.now) m.frame.operands)))
    (c.noted-read.ensures.member ∙ ap model.is_member c.misfit_read.ensures)
    ∙ ap (λ (k : ℕ). model.is_member (model.misfit_read reads m.frame.locals) || model.some_of model.is_member
    (model.misfits p m.heap takes (model.on_top k m.frame.operands))) (sym count))

pub returns-then-depth-takes : goal.returns-then-depth-takes
returns-then-depth-takes c = grind (arith, common_steps)
