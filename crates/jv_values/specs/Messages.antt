-- Messages between roles: the methods of the class `Session`.
use Rattle.std.specs.Prelude.{ℕ, Bool, false, List, [], ◌∷◌, length, Option, Some, None, slice_get, if◌then◌else◌}
use Rattle.std.specs.List.{filter}
use Rattle.std.specs.Str.{bytes_eq}
use Rattle.mg_text.specs.Call.{Name}
use Rattle.mg_text.specs.declared.event.Event.{Event}
use Rattle.mg_text.specs.declared.event.Event.TheVariants as seen
use Rattle.mg_text.specs.declared.event.Sent.{Sent}
use Rattle.mg_text.specs.declared.event.Carried.{Carried}
use Rattle.mg_text.specs.declared.event.Carried.TheVariants as carried
use Rattle.jv_tree.specs.declared.built_in.SessionCall.{SessionCall}
use Rattle.jv_tree.specs.declared.built_in.SessionCall.TheVariants.{Send, SendInt, SendBoolean, SendString, Look, Refuse}
use Rattle.jv_tree.specs.declared.built_in.SessionCall.TheVariants.{Take, TakeInt, TakeBoolean, TakeString}
use Rattle.jv_values.specs.Values.{Value, Int, Truth, Text, Inputs, Finish, Wrong, Mismatch, NoPeer, Wait, Shared}
use Rattle.jv_values.specs.Doing.{Run, ◌>>=◌, give, stop, note, happened, number, truth, text}

-- the messages of a role, where it is another role of the run
abbrev pub messages_of : Inputs → Name → Option (List Sent)
messages_of [] q = None
messages_of (e ∷ rest) q = if bytes_eq q e.0 then Some e.1 else messages_of rest q

abbrev pub takes_from : Name → Event → Bool
takes_from q (seen.Take peer label payload) = bytes_eq q peer
takes_from q _ = false

-- how many messages from a role were taken
abbrev pub taken : Name → List Event → ℕ
taken q events = length (filter (takes_from q) events)

-- what is there, or this ending
abbrev pub there_or : {A : Type 0} → Finish → Option A → Run Shared A
there_or f None = stop f
there_or f (Some a) = give a

-- the messages of a peer, which must be another role of the run
abbrev pub peer : Inputs → Name → Run Shared (List Sent)
peer inputs q = there_or (NoPeer q) (messages_of inputs q)

-- the next message from a peer: the first behind those that were taken
abbrev pub next_message : Inputs → Name → Run Shared Sent
next_message inputs q = do
  ms ← peer inputs q
  events ← happened
  there_or (Wait q) (slice_get ms (taken q events))

abbrev pub sends : Inputs → (peer label : Name) → Carried → Run Shared (Option Value)
sends inputs q l payload = do
  _ ← peer inputs q
  _ ← note (seen.Send q l payload)
  give None

abbrev pub looks : Inputs → (peer : Name) → Run Shared (Option Value)
looks inputs q = do
  m ← next_message inputs q
  _ ← note (seen.Look q m.label)
  give (Some (Text m.label))

-- What a take gives of what a message carries, where this is of the kind that is taken.

abbrev pub nothing_in : Carried → Option (Option Value)
nothing_in carried.Nothing = Some None
nothing_in _ = None

abbrev pub int_in : Carried → Option (Option Value)
int_in (carried.Int z) = Some (Some (Int z))
int_in _ = None

abbrev pub truth_in : Carried → Option (Option Value)
truth_in (carried.Truth b) = Some (Some (Truth b))
truth_in _ = None

abbrev pub text_in : Carried → Option (Option Value)
text_in (carried.Text t) = Some (Some (Text t))
text_in _ = None

-- a message with another label, or with another kind of payload, stays
abbrev pub takes : Inputs → (Carried → Option (Option Value)) → (peer label : Name) → Run Shared (Option Value)
takes inputs within q l = do
  m ← next_message inputs q
  r ← there_or (Mismatch q m.label) (if bytes_eq m.label l then within m.payload else None)
  _ ← note (seen.Take q m.label m.payload)
  give r

abbrev pub refuses : Inputs → (peer found : Name) → Run Shared (Option Value)
refuses inputs q f = peer inputs q >>= λ ms. stop (Mismatch q f)

-- a call with these arguments; the peer is tested once all are evaluated
abbrev pub session : Inputs → SessionCall → List Value → Run Shared (Option Value)
session inputs Send (q ∷ l ∷ []) = text q >>= λ q. text l >>= λ l. sends inputs q l carried.Nothing
session inputs SendInt (q ∷ l ∷ v ∷ []) = text q >>= λ q. text l >>= λ l. number v >>= λ z. sends inputs q l (carried.Int z)
session inputs SendBoolean (q ∷ l ∷ v ∷ []) = text q >>= λ q. text l >>= λ l. truth v >>= λ b. sends inputs q l (carried.Truth b)
session inputs SendString (q ∷ l ∷ v ∷ []) = text q >>= λ q. text l >>= λ l. text v >>= λ t. sends inputs q l (carried.Text t)
session inputs Look (q ∷ []) = text q >>= λ q. looks inputs q
session inputs Take (q ∷ l ∷ []) = text q >>= λ q. text l >>= λ l. takes inputs nothing_in q l
session inputs TakeInt (q ∷ l ∷ []) = text q >>= λ q. text l >>= λ l. takes inputs int_in q l
session inputs TakeBoolean (q ∷ l ∷ []) = text q >>= λ q. text l >>= λ l. takes inputs truth_in q l
session inputs TakeString (q ∷ l ∷ []) = text q >>= λ q. text l >>= λ l. takes inputs text_in q l
session inputs Refuse (q ∷ f ∷ []) = text q >>= λ q. text f >>= λ f. refuses inputs q f
session inputs _ _ = stop Wrong
