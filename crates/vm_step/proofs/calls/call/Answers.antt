use Rattle.std.proofs.lemmas.Grind.{common_steps}
use Rattle.std.proofs.Common.{◌≡◌, ◌∙◌, length, ap, sym, refl, arith}
use Rattle.std.proofs.lemmas.List.{length-map}
use Rattle.vm_model.specs.Program.{method_at}
use Rattle.vm_model.specs.Actions.{Call}
use Rattle.vm_model.specs.Tests.{Needs, needs, wrong, call_takes}
use Rattle.vm_session.specs.State.{state_of}
use Rattle.vm_actions.specs.Table.{calling_of}
use Rattle.vm_step.specs.Needing.{want_of, needs_of}
use Rattle.vm_step.proofs.Acts.{act_wrong, plays_for, room_in}
use Rattle.vm_step.proofs.Whole.{call_is}
use Rattle.vm_step.proofs.calls.call.Goals as goal

pub returns-in-Some-clause-ok : goal.returns-in-Some-clause-ok
returns-in-Some-clause-ok c =
    let p = c.args.linked.now in
    let m = state_of c.args.state.now in
    let same : needs_of c.call_needs-needs.result ≡ needs p m (Call (calling_of c.args.calling) c.args.class c.args.method) =
    rw (c.as_slice.ensures.value, c.in_ok-takes.ensures, c.method_at.ensures) at c.call_needs-needs.ensures in
    λ me q. (
      act_wrong p q m me (Call (calling_of c.args.calling) c.args.class c.args.method) c.in-Some.kind
          (sym c.in-Some.is ∙ c.wrong.ensures ∙ ap (λ (n : Needs). wrong p n m) same),
      refl,
      refl,
    )

pub returns-clause-ok : goal.returns-clause-ok
returns-clause-ok c =
    let p = c.args.linked.now in
    let m = state_of c.args.state.now in
    let same : needs_of c.call_needs-needs.result ≡ needs p m (Call (calling_of c.args.calling) c.args.class c.args.method) =
    rw (c.as_slice.ensures.value, c.in_ok-takes.ensures, c.method_at.ensures) at c.call_needs-needs.ensures in
    let count : length (call_takes p (calling_of c.args.calling) c.args.class (method_at p c.args.class c.args.method)) ≡ c.len.result =
    ap length (sym c.in_ok-takes.ensures) ∙ length-map c.in_ok-takes.takes.items want_of ∙ sym
    (c.len.ensures ∙ c.in_ok-takes.takes.ok.0) in
    plays_for m (state_of c.call_tested.new.state) c.call_tested.result _ _
    (λ me q. call_is p q m me (calling_of c.args.calling) c.args.class c.args.method c.len.result count
    (sym c.in_default.is ∙ c.wrong.ensures ∙ ap (λ (n : Needs). wrong p n m) same))
    c.call_tested.ensures.ok

pub call_tested-requires-clause-locals : goal.call_tested-requires-clause-locals
call_tested-requires-clause-locals c =
    let p = c.args.linked.now in
    let m = state_of c.args.state.now in
    let same : needs_of c.call_needs-needs.result ≡ needs p m (Call (calling_of c.args.calling) c.args.class c.args.method) =
    rw (c.as_slice.ensures.value, c.in_ok-takes.ensures, c.method_at.ensures) at c.call_needs-needs.ensures in
    let right = room_in p (needs p m (Call (calling_of c.args.calling) c.args.class c.args.method)) m
    (sym c.in_default.is ∙ c.wrong.ensures ∙ ap (λ (n : Needs). wrong p n m) same) in
    let count : length (call_takes p (calling_of c.args.calling) c.args.class (method_at p c.args.class c.args.method)) ≡ c.len.result =
    ap length (sym c.in_ok-takes.ensures) ∙ length-map c.in_ok-takes.takes.items want_of ∙ sym
    (c.len.ensures ∙ c.in_ok-takes.takes.ok.0) in
    omega (arith, right.0, count)

pub call_tested-requires-clause-receiver : goal.call_tested-requires-clause-receiver
call_tested-requires-clause-receiver c = grind (arith, common_steps)

pub call_tested-requires-clause-within : goal.call_tested-requires-clause-within
call_tested-requires-clause-within c = grind (arith, common_steps)
