-- What the members of `Session` do, by the operands that stand so far from the top and the first message on its way.
use Rattle.std.specs.Prelude.{ℕ, List, [], ◌∷◌, ◌++◌, drop, slice_get, Option, Some, None, if◌then◌else◌, option_map}
use Rattle.std.specs.Str.{bytes_eq}
use Rattle.mg_text.specs.Call.{Name}
use Rattle.mg_text.specs.declared.event.Sent.{Sent}
use Rattle.mg_text.specs.declared.event.Carried.{Carried}
use Rattle.mg_text.specs.declared.event.Carried.TheVariants as carried
use Rattle.mg_text.specs.declared.event.Event.TheVariants as seen
use Rattle.mg_text.specs.declared.event.Ending.TheVariants as endings
use Rattle.vm_model.specs.declared.value.Value.{Value}
use Rattle.vm_model.specs.declared.value.Value.TheVariants as values
use Rattle.vm_model.specs.Messages.{Messages, on_way, role_named}
use Rattle.vm_model.specs.Machine.{Machine, Stepped, Waits, Stops}
use Rattle.vm_model.specs.Step.{next, tells, is_true, truth, other_role, sends, taken_as, takes_first, refuses_from, Payload, NoPayload}
use Rattle.vm_model.specs.Step.{IntPayload, TruthPayload, TextPayload}
use Rattle.vm_session.specs.declared.session.Payload.{Payload as Kept}
use Rattle.vm_session.specs.declared.session.Payload.TheVariants as kept
use Rattle.vm_session.specs.inner.Tops.{int_in, text_in}

abbrev pub payload_of : Kept → Payload
payload_of kept.Nothing = NoPayload
payload_of kept.Int = IntPayload
payload_of kept.Truth = TruthPayload
payload_of kept.Text = TextPayload

-- what is sent, from the operand on top
abbrev pub payload_in : Payload → Option Value → Option Carried
payload_in NoPayload v = Some carried.Nothing
payload_in IntPayload v = option_map carried.Int (int_in v)
payload_in TruthPayload v = option_map (λ x. carried.Truth (is_true x)) (int_in v)
payload_in TextPayload v = option_map carried.Text (text_in v)

-- how many operands a send takes
abbrev pub sent_count : Payload → ℕ
sent_count NoPayload = 2
sent_count _ = 3

abbrev pub sends_by : Messages → Machine → ℕ → List Value → Option Name → Option Name → Option Carried → Stepped
sends_by q m me rest (Some peer) (Some label) (Some payload) = sends q m me rest peer label payload
sends_by q m me rest _ _ _ = Stops endings.Null

abbrev pub looks_head : Messages → Machine → List Value → Name → ℕ → Option Sent → Stepped
looks_head q m rest peer from None = Waits from
looks_head q m rest peer from (Some message) = tells q (seen.Look peer message.label) (next m (rest ++ values.Text message.label ∷ []))

abbrev pub looks_role : Messages → Machine → ℕ → List Value → Name → Option ℕ → Stepped
looks_role q m me rest peer None = Stops (endings.NoPeer peer)
looks_role q m me rest peer (Some from) = looks_head q m rest peer from (slice_get (on_way q from me) 0)

abbrev pub looks_by : Messages → Machine → ℕ → List Value → Option Name → Stepped
looks_by q m me rest None = Stops endings.Null
looks_by q m me rest (Some peer) = looks_role q m me rest peer (other_role me (role_named q peer))

-- what a message that is taken pushes
abbrev pub pushed_of : Carried → List Value
pushed_of carried.Nothing = []
pushed_of (carried.Int x) = values.Int x ∷ []
pushed_of (carried.Truth b) = truth b ∷ []
pushed_of (carried.Text text) = values.Text text ∷ []

abbrev pub taken_where : Payload → Name → Sent → Option (List Value)
taken_where carries label message = if bytes_eq message.label label then taken_as carries message.payload else None

abbrev pub takes_head : Messages → Machine → ℕ → Payload → List Value → Name → Name → ℕ → List Sent → Option Sent → Stepped
takes_head q m me carries rest peer label from more None = Waits from
takes_head q m me carries rest peer label from more (Some message) =
    takes_first q m me rest peer from message more (taken_where carries label message)

abbrev pub takes_role : Messages → Machine → ℕ → Payload → List Value → Name → Name → Option ℕ → Stepped
takes_role q m me carries rest peer label None = Stops (endings.NoPeer peer)
takes_role q m me carries rest peer label (Some from) =
    takes_head q m me carries rest peer label from (drop 1 (on_way q from me)) (slice_get (on_way q from me) 0)

abbrev pub takes_by : Messages → Machine → ℕ → Payload → List Value → Option Name → Option Name → Stepped
takes_by q m me carries rest (Some peer) (Some label) = takes_role q m me carries rest peer label (other_role me (role_named q peer))
takes_by q m me carries rest _ _ = Stops endings.Null

abbrev pub refuses_by : Messages → ℕ → Option Name → Option Name → Stepped
refuses_by q me (Some peer) (Some found) = refuses_from peer found (other_role me (role_named q peer))
refuses_by q me _ _ = Stops endings.Null
