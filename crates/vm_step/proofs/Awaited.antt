-- For whose message looks and takes wait.
use Rattle.std.proofs.Common.{◌≡◌, ℕ, false, List, Option, Some, None, refl, sym, ap, ◌∙◌, drop, slice_get}
use Rattle.mg_text.specs.Call.{Name}
use Rattle.mg_text.specs.declared.event.Sent.{Sent}
use Rattle.vm_model.specs.declared.value.Value.{Value}
use Rattle.vm_model.specs.declared.linked.Built.{Built as BuiltIn}
use Rattle.vm_model.specs.declared.linked.Built.TheVariants as built
use Rattle.vm_model.specs.Program.{Program}
use Rattle.vm_model.specs.Messages.{Messages, on_way, role_named}
use Rattle.vm_model.specs.Machine.{Machine}
use Rattle.vm_model.specs.Actions.{Action, Push, Load, Store, Pop, Double, Swap, Compute, Negate, Increase, IfZero, IfBoth, IfNull, Go}
use Rattle.vm_model.specs.Actions.{Switch, Return, Read, Write, Make, Call, Use}
use Rattle.vm_model.specs.Tests.{needs, wrong, below}
use Rattle.vm_model.specs.Step.{Payload, other_role, takes_first, act}
use Rattle.vm_step.specs.Doing.{waits_in}
use Rattle.vm_session.specs.inner.Tops.{at_top, text_in}
use Rattle.vm_session.specs.inner.Sessions.{looks_head, looks_role, looks_by, taken_where, takes_head, takes_role, takes_by}
use Rattle.vm_step.specs.inner.Awaiting.{awaited_head, awaited_role, awaited_in, awaited_with, used_in}
use Rattle.vm_step.proofs.Waiting.{looks, looks_at_messages}
use Rattle.vm_step.proofs.Whole.{taken}

module _ (q : Messages) (m : Machine) (rest : List Value) (me : ℕ) where
  look_head : (peer : Name) (from : ℕ) (first : Option Sent) → awaited_head from first ≡ waits_in (looks_head q m rest peer from first)
  look_head peer from None = refl
  look_head peer from (Some message) = refl

  look_role : (peer : Name) (from : Option ℕ) → awaited_role q me from ≡ waits_in (looks_role q m me rest peer from)
  look_role peer None = refl
  look_role peer (Some from) = look_head peer from (slice_get (on_way q from me) 0)

  pub looks_await : (peer : Option Name) → awaited_in q me peer ≡ waits_in (looks_by q m me rest peer)
  looks_await None = refl
  looks_await (Some peer) = look_role peer (other_role me (role_named q peer))

  module _ (carries : Payload) where
    take_first : (peer : Name) (from : ℕ) (message : Sent) (more : List Sent) (given : Option (List Value)) → None ≡ waits_in
        (takes_first q m me rest peer from message more given)
    take_first peer from message more None = refl
    take_first peer from message more (Some vs) = refl

    take_head : (peer label : Name) (from : ℕ) (more : List Sent) (first : Option Sent) → awaited_head from first ≡ waits_in
        (takes_head q m me carries rest peer label from more first)
    take_head peer label from more None = refl
    take_head peer label from more (Some message) = take_first peer from message more (taken_where carries label message)

    take_role : (peer label : Name) (from : Option ℕ) → awaited_role q me from ≡ waits_in (takes_role q m me carries rest peer label from)
    take_role peer label None = refl
    take_role peer label (Some from) = take_head peer label from (drop 1 (on_way q from me)) (slice_get (on_way q from me) 0)

    pub takes_await : (peer label : Option Name) → awaited_with q me peer label ≡ waits_in (takes_by q m me carries rest peer label)
    takes_await (Some peer) (Some label) = take_role peer label (other_role me (role_named q peer))
    takes_await (Some peer) None = refl
    takes_await None label = refl

-- For whom a take waits that does what takes of its kind do where nothing is wrong.
pub take_awaits : (p : Program) (q : Messages) (m : Machine) (me : ℕ) (carries : Payload) (b kind : BuiltIn) → b ≡ kind →
    (None ≡ wrong p (needs p m (Use kind)) m → act p q m me (Use kind) ≡ taken p q m me carries) → None ≡ wrong p (needs p m (Use b)) m →
    awaited_with q me (text_in (at_top m.frame.operands 1)) (text_in (at_top m.frame.operands 0)) ≡ waits_in (act p q m me (Use b))
take_awaits p q m me carries b kind is done none =
    rw is
    (takes_await q m (below 2 m.frame.operands) me carries (text_in (at_top m.frame.operands 1)) (text_in (at_top m.frame.operands 0))
    ∙ ap waits_in (sym (done (rw is at none))))

-- an action that uses no member looks at no message
pub none_used : (a : Action) → None ≡ used_in a → looks_at_messages a ≡ false
none_used (Use b) e = absurd (cc e)
none_used (Push v) e = refl
none_used (Load sort local) e = refl
none_used (Store sort local) e = refl
none_used Pop e = refl
none_used Double e = refl
none_used Swap e = refl
none_used (Compute operation) e = refl
none_used Negate e = refl
none_used (Increase local by) e = refl
none_used (IfZero comparison target) e = refl
none_used (IfBoth comparison target) e = refl
none_used (IfNull wanted target) e = refl
none_used (Go target) e = refl
none_used (Switch default low targets) e = refl
none_used (Return sort) e = refl
none_used (Read class field) e = refl
none_used (Write class field) e = refl
none_used (Make class) e = refl
none_used (Call _ class method) e = refl

-- a member that is none of those that look at messages
pub other_member : (b : BuiltIn) → (b ≡ built.Look → ⊥) → (b ≡ built.Take → ⊥) → (b ≡ built.TakeInt → ⊥) → (b ≡ built.TakeTruth → ⊥)
    → (b ≡ built.TakeText → ⊥) → looks b ≡ false
other_member built.Look a b c d e = absurd (a refl)
other_member built.Take a b c d e = absurd (b refl)
other_member built.TakeInt a b c d e = absurd (c refl)
other_member built.TakeTruth a b c d e = absurd (d refl)
other_member built.TakeText a b c d e = absurd (e refl)
other_member _ a b c d e = refl
