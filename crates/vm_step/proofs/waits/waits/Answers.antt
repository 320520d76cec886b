use Rattle.std.proofs.Common.{rules, ◌≡◌, ◌∙◌, None, sym, ap}
use Rattle.vm_model.specs.Step.{act, act_at, act_some, step}
use Rattle.vm_session.specs.State.{state_of}
use Rattle.vm_actions.specs.Table.{action_of}
use Rattle.vm_step.specs.Doing.{waits_in}
use Rattle.vm_step.proofs.Waiting.{rests}
use Rattle.vm_step.proofs.Awaited.{none_used}
use Rattle.vm_step.proofs.waits.waits.Goals as goal

pub returns-in_err-built : goal.returns-in_err-built
returns-in_err-built c =
    let p = c.args.linked.now in
    let q = c.args.ports.now in
    let m = state_of c.args.state.now in
    let a = action_of c.in_ok-action.action in
    let stepped : step p c.args.me m q ≡ act p q m c.args.me a = ap (act_at p q m c.args.me) (sym c.in_ok-instr.ensures.value) ∙ ap
    (act_some p q m c.args.me) (sym c.in_ok-action.ensures) in
    let given : c.from_residual-in_err-built.result ≡ None = search rules in
    given ∙ sym (ap waits_in stepped ∙ rests p q m c.args.me a (none_used a c.in_err-built.ensures))
