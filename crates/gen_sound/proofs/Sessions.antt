-- Calls of `Session`: the machine sends, looks, takes, waits and refuses as is meant.
use Rattle.std.proofs.Common.{◌≡◌, ℕ, zero, suc, ◌+◌, ◌≤◌, Bool, true, false, List, [], ◌∷◌, ◌++◌, length, map, drop, Option, Some, None}
use Rattle.std.proofs.Common.{refl, sym, ap, ◌∙◌, subst, append-nil}
use Rattle.std.specs.Prelude.{slice_get, option_map, if◌then◌else◌}
use Rattle.std.specs.Str.{bytes_eq}
use Rattle.mg_text.specs.Call.{Name}
use Rattle.mg_text.specs.declared.event.Event.TheVariants as seen
use Rattle.mg_text.specs.declared.event.Ending.TheVariants as endings
use Rattle.mg_text.specs.declared.event.Sent.{Sent}
use Rattle.mg_text.specs.declared.event.Carried.{Carried}
use Rattle.mg_text.specs.declared.event.Carried.TheVariants as carried
use Rattle.jv_values.specs.Values.{Value, Shared, Inputs, Mismatch, NoPeer, Wait}
use Rattle.jv_values.specs.Values as values
use Rattle.jv_values.specs.Doing.{Run, Outcome, and_then, ◌>>=◌, give, stop, note, happened}
use Rattle.jv_values.specs.Messages.{messages_of, taken, there_or, sends, looks, takes, refuses, nothing_in, int_in, truth_in, text_in}
use Rattle.jv_values.specs.Messages.{session}
use Rattle.jv_tree.specs.declared.built_in.SessionCall.{SessionCall}
use Rattle.jv_tree.specs.declared.built_in.SessionCall.TheVariants as calls
use Rattle.jv_core.specs.Tree.{Method, Program}
use Rattle.jv_core.specs.Types.{session_params, session_result}
use Rattle.jv_core.specs.Conditions.{IsCore}
use Rattle.vm_model.specs.declared.value.Value.{Value as Held}
use Rattle.vm_model.specs.declared.value.Value.TheVariants as held
use Rattle.vm_model.specs.Program as linked
use Rattle.vm_model.specs.Links.{Outline}
use Rattle.vm_model.specs.Messages.{Messages, on_way, with_list, sending, role_named}
use Rattle.vm_model.specs.Machine.{Stepped}
use Rattle.vm_model.specs.Machine as vm
use Rattle.vm_model.specs.Step.{step, other_role, taken_as, Payload, NoPayload, IntPayload, TruthPayload, TextPayload}
use Rattle.vm_model.specs.Step as machine
use Rattle.vm_model.specs.declared.linked.Built.TheVariants as built
use Rattle.vm_model.specs.Actions.{Use}
use Rattle.vm_model.specs.Tests.{number, text}
use Rattle.gen_rules.specs.Symbolic.{Instr, invokestatic}
use Rattle.gen_rules.specs.Members.{session_reference}
use Rattle.gen_rules.specs.Frames.{max_stack, left_by}
use Rattle.jv_sound.proofs.Worlds.{World, AllFit}
use Rattle.jv_sound.proofs.Worlds as worlds
use Rattle.gen_sound.specs.Following.{Moment, Stopped, Follows}
use Rattle.gen_sound.specs.Related.{Running, moment, flat, flat_given, RunsCode}
use Rattle.vm_world_law.specs.Meant.{PeerHolds, Holds}
use Rattle.vm_world_law.specs.Meant as meaning
use Rattle.gen_sound.specs.Arriving.{Arrives}
use Rattle.gen_sound.proofs.Steps.{stays, lead_of}
use Rattle.gen_sound.proofs.Taking.{step_takes}
use Rattle.gen_sound.proofs.Forms.{Value_at}
use Rattle.gen_sound.proofs.Peers.{other_is, seen_holds, sent_holds, took_holds}

-- a list behind some of its elements
data Dropped {A : Type 0} (xs : List A) (k : ℕ) : Type 0 where
  nothing_left : slice_get xs k ≡ None → drop k xs ≡ [] → Dropped xs k
  next : (x : A) (more : List A) → slice_get xs k ≡ Some x → drop k xs ≡ x ∷ more → Dropped xs k

dropped : {A : Type 0} (xs : List A) (k : ℕ) → Dropped xs k
dropped [] zero = nothing_left refl refl
dropped [] (suc k) = nothing_left refl refl
dropped (x ∷ xs) zero = next x xs refl refl
dropped (x ∷ xs) (suc k) = further (dropped xs k)
  where
    further : Dropped xs k → Dropped (x ∷ xs) (suc k)
    further (nothing_left a b) = nothing_left a b
    further (next y more a b) = next y more a b

-- what the machine takes of what a message carries is what is meant
nothing_taken : (c : Carried) → taken_as NoPayload c ≡ option_map flat_given (nothing_in c)
nothing_taken carried.Nothing = refl
nothing_taken (carried.Int z) = refl
nothing_taken (carried.Truth b) = refl
nothing_taken (carried.Text t) = refl

int_taken : (c : Carried) → taken_as IntPayload c ≡ option_map flat_given (int_in c)
int_taken carried.Nothing = refl
int_taken (carried.Int z) = refl
int_taken (carried.Truth b) = refl
int_taken (carried.Text t) = refl

truth_taken : (c : Carried) → taken_as TruthPayload c ≡ option_map flat_given (truth_in c)
truth_taken carried.Nothing = refl
truth_taken (carried.Int z) = refl
truth_taken (carried.Truth b) = refl
truth_taken (carried.Text t) = refl

text_taken : (c : Carried) → taken_as TextPayload c ≡ option_map flat_given (text_in c)
text_taken carried.Nothing = refl
text_taken (carried.Int z) = refl
text_taken (carried.Truth b) = refl
text_taken (carried.Text t) = refl

if_mapped : {A B : Type 0} (f : A → B) (b : Bool) (x : Option B) (y : Option A) → x ≡ option_map f y →
    (if b then x else None) ≡ option_map f (if b then y else None)
if_mapped f true x y e = e
if_mapped f false x y e = refl

module _ (p : Program) (ok : IsCore p) (os : List Outline) (program : linked.Program) (inputs : Inputs) (me : ℕ) (r : Running) (m : Method)
    (code : List Instr) (runs : RunsCode p os program me r m code) (n : ℕ) (ls : List (Option Held)) where
  abbrev A : (place : ℕ) → List Held → Shared → Messages → Moment
  A place st s q = moment p r place st ls s q

  abbrev V : (to : ℕ) (st : List Held) → Moment → Option Value → Shared → Type 0
  V = Value_at p ok os program inputs me r m code runs n ls

  abbrev F : {B : Type 0} → (Moment → B → Shared → Type 0) → Moment → Outcome Shared B → Type 0
  F R c o = Follows (step program me) n R c o

  stopped : (c : Moment) (last : Stepped) → step program me c.machine c.messages ≡ last → Stopped (step program me) c c.events last
  stopped c last e = record { moment = c; comes = stays (step program me) c; events_are = refl; stops = e }

  abbrev after_send : (peer label : Name) → Carried → List Sent → Run Shared (Option Value)
  after_send peer label payload ms = note (seen.Send peer label payload) >>= λ done. give None

  -- a message is sent, where the peer is another role
  sends_go : (place : ℕ) (st args : List Held) (peer label : Name) (payload : Carried) (s : Shared) (q : Messages) →
      step program me (A place (st ++ args) s q).machine q
      ≡ machine.sends q (A place (st ++ args) s q).machine me st peer label payload → Holds inputs q me s.events →
      PeerHolds inputs q me s.events peer → F (V (place + 1) st) (A place (st ++ args) s q) (sends inputs peer label payload s)
  sends_go place st args peer label payload s q is holds (meaning.unknown a b) =
      let c : Moment = A place (st ++ args) s q in
      subst (λ o. F (V (place + 1) st) c (and_then (there_or (NoPeer peer) o s) (after_send peer label payload))) (sym a)
      (stopped c _ (is ∙ ap (machine.sends_to q c.machine me st peer (record { label = label; payload = payload })) b))
  sends_go place st args peer label payload s q is holds (meaning.known sent to a b w) =
      let c : Moment = A place (st ++ args) s q in
      let message : Sent = record { label = label; payload = payload } in
      let event = seen.Send peer label payload in
      let after : Shared = record s { events = s.events ++ event ∷ [] } in
      subst (λ o. F (V (place + 1) st) c (and_then (there_or (NoPeer peer) o s) (after_send peer label payload))) (sym a)
      (subst (λ x. Arrives p program inputs me r (place + 1) x ls c after) (sym (append-nil st)) (record {
        messages = sending q me to message;
        comes = (lead_of (step program me) c (A (place + 1) st after (sending q me to message)) (Some event)
            (is ∙ ap (machine.sends_to q c.machine me st peer message) b) refl).comes;
        holds = sent_holds inputs q me to message s.events event (λ name. refl) holds;
      }))

  -- what is done with the next message of a peer
  abbrev on_next : Name → (Sent → Run Shared (Option Value)) → List Sent → Run Shared (Option Value)
  on_next peer go ms = (happened >>= λ events. there_or (Wait peer) (slice_get ms (taken peer events))) >>= go

  abbrev next_is : Name → (Sent → Run Shared (Option Value)) → Shared → Outcome Shared (Option Value)
  next_is peer go s = and_then (and_then (there_or (NoPeer peer) (messages_of inputs peer) s)
      (λ ms. happened >>= λ events. there_or (Wait peer) (slice_get ms (taken peer events)))) go

  -- the machine looks for the next message of a peer: there is no such role, no message, or one
  next_goes : (R : Moment → Option Value → Shared → Type 0) (c : Moment) (peer : Name) (s : Shared) (q : Messages) (go : Sent →
      Run Shared (Option Value))
      (from_to : Option ℕ → Stepped) (with_list_of : ℕ → List Sent → Stepped) → c.messages ≡ q → c.events ≡ s.events →
      step program me c.machine q ≡ from_to (other_role me (role_named q peer)) →
      from_to None ≡ vm.Stops (endings.NoPeer peer) → ((from : ℕ) → from_to (Some from) ≡ with_list_of from (on_way q from me)) →
      ((from : ℕ) → with_list_of from [] ≡ vm.Waits from) → PeerHolds inputs q me s.events peer →
      ((from : ℕ) (x : Sent) (more : List Sent) → other_role me (role_named q peer) ≡ Some from → on_way q from me ≡ x ∷ more →
      step program me c.machine q ≡ with_list_of from (x ∷ more) → F R c (go x s)) → F R c (next_is peer go s)
  next_goes R c peer s q go from_to with_list_of messages events is no_peer some empty (meaning.unknown a b) k =
      subst (λ o. F R c (and_then (and_then (there_or (NoPeer peer) o s)
      (λ ms. happened >>= λ events. there_or (Wait peer) (slice_get ms (taken peer events)))) go)) (sym a)
      (record {
        moment = c;
        comes = stays (step program me) c;
        events_are = events;
        stops = ap (step program me c.machine) messages ∙ is ∙ ap from_to b ∙ no_peer;
      })
  next_goes R c peer s q go from_to with_list_of messages events is no_peer some empty (meaning.known sent from a b w) k =
      subst (λ o. F R c (and_then (and_then (there_or (NoPeer peer) o s)
      (λ ms. happened >>= λ events. there_or (Wait peer) (slice_get ms (taken peer events)))) go)) (sym a)
      (by (dropped sent (taken peer s.events)))
    where
      by : Dropped sent (taken peer s.events) → F R c (and_then (there_or (Wait peer) (slice_get sent (taken peer s.events)) s) go)
      by (nothing_left e d) = subst (λ o. F R c (and_then (there_or (Wait peer) o s) go)) (sym e) (record {
        moment = c;
        comes = stays (step program me) c;
        events_are = events;
        from = from;
        named = ap (λ x. role_named x peer) messages ∙ (other_is me (role_named q peer) from b).is;
        waits = ap (step program me c.machine) messages ∙ is ∙ ap from_to b ∙ some from ∙ ap (with_list_of from) (w ∙ d) ∙ empty from;
      })
      by (next x more e d) = subst (λ o. F R c (and_then (there_or (Wait peer) o s) go)) (sym e)
          (k from x more b (w ∙ d) (is ∙ ap from_to b ∙ some from ∙ ap (with_list_of from) (w ∙ d)))

  looks_go : (place : ℕ) (st args : List Held) (peer : Name) (s : Shared) (q : Messages) →
      step program me (A place (st ++ args) s q).machine q
      ≡ machine.looks_from q (A place (st ++ args) s q).machine me st peer (other_role me (role_named q peer)) →
      Holds inputs q me s.events → F (V (place + 1) st) (A place (st ++ args) s q) (looks inputs peer s)
  looks_go place st args peer s q is holds =
      let c : Moment = A place (st ++ args) s q in
      next_goes (V (place + 1) st) c peer s q
      (λ x. note (seen.Look peer x.label) >>= λ done. give (Some (values.Text x.label)))
      (machine.looks_from q c.machine me st peer) (machine.looks_at q c.machine st peer) refl refl is refl (λ from. refl) (λ from. refl)
      (holds.peers peer)
      (λ from x more b w step_is. record {
        messages = q;
        comes = (lead_of (step program me) c
            (A (place + 1) (st ++ held.Text x.label ∷ []) (record s { events = s.events ++ seen.Look peer x.label ∷ [] }) q)
            (Some (seen.Look peer x.label)) step_is refl).comes;
        holds = seen_holds inputs q me s.events (seen.Look peer x.label) (λ name. refl) holds;
      })

  -- a message that is taken, where it is the one that is asked for
  took : (place : ℕ) (st args : List Held) (peer : Name) (s : Shared) (q : Messages) (from : ℕ) (x : Sent) (more : List Sent)
      (o : Option (Option Value)) → other_role me (role_named q peer) ≡ Some from → on_way q from me ≡ x ∷ more →
      step program me (A place (st ++ args) s q).machine q
      ≡ machine.takes_first q (A place (st ++ args) s q).machine me st peer from x more (option_map flat_given o) →
      Holds inputs q me s.events → F (V (place + 1) st) (A place (st ++ args) s q)
      (and_then (there_or (Mismatch peer x.label) o s) (λ v. note (seen.Take peer x.label x.payload) >>= λ done. give v))
  took place st args peer s q from x more None b w is holds = stopped (A place (st ++ args) s q) _ is
  took place st args peer s q from x more (Some v) b w is holds =
      let c : Moment = A place (st ++ args) s q in
      let event = seen.Take peer x.label x.payload in
      record {
        messages = with_list q from me more;
        comes = (lead_of (step program me) c
            (A (place + 1) (st ++ flat_given v) (record s { events = s.events ++ event ∷ [] }) (with_list q from me more)) (Some event) is
            refl).comes;
        holds = took_holds inputs q me from peer x.label x.payload x more s.events b w holds;
      }

  takes_go : (carries : Payload) (within : Carried → Option (Option Value)) →
      ((c : Carried) → taken_as carries c ≡ option_map flat_given (within c)) →
      (place : ℕ) (st args : List Held) (peer label : Name) (s : Shared) (q : Messages) →
      step program me (A place (st ++ args) s q).machine q
      ≡ machine.takes_from q (A place (st ++ args) s q).machine me carries st peer label (other_role me (role_named q peer)) →
      Holds inputs q me s.events → F (V (place + 1) st) (A place (st ++ args) s q) (takes inputs within peer label s)
  takes_go carries within same place st args peer label s q is holds =
      let c : Moment = A place (st ++ args) s q in
      next_goes (V (place + 1) st) c peer s q
      (λ x. there_or (Mismatch peer x.label) (if bytes_eq x.label label then within x.payload else None) >>= λ v. note
      (seen.Take peer x.label x.payload) >>= λ done. give v)
      (machine.takes_from q c.machine me carries st peer label) (machine.takes_at q c.machine me carries st peer label) refl refl is refl
      (λ from. refl) (λ from. refl) (holds.peers peer)
      (λ from x more b w step_is. took place st args peer s q from x more (if bytes_eq x.label label then within x.payload else None) b w
      (step_is ∙ ap (machine.takes_first q c.machine me st peer from x more)
      (if_mapped flat_given (bytes_eq x.label label) (taken_as carries x.payload) (within x.payload) (same x.payload))) holds)

  refuses_go : (place : ℕ) (st args : List Held) (peer label : Name) (s : Shared) (q : Messages) →
      step program me (A place (st ++ args) s q).machine q ≡ machine.refuses_from peer label (other_role me (role_named q peer)) →
      PeerHolds inputs q me s.events peer → F (V (place + 1) st) (A place (st ++ args) s q) (refuses inputs peer label s)
  refuses_go place st args peer label s q is (meaning.unknown a b) =
      subst (λ o. F (V (place + 1) st) (A place (st ++ args) s q)
      (and_then (there_or (NoPeer peer) o s) (λ ms. stop (Mismatch peer label))))
      (sym a) (stopped (A place (st ++ args) s q) _ (is ∙ ap (machine.refuses_from peer label) b))
  refuses_go place st args peer label s q is (meaning.known sent to a b w) =
      subst (λ o. F (V (place + 1) st) (A place (st ++ args) s q)
      (and_then (there_or (NoPeer peer) o s) (λ ms. stop (Mismatch peer label))))
      (sym a) (stopped (A place (st ++ args) s q) _ (is ∙ ap (machine.refuses_from peer label) b))

  -- the call, over its arguments
  pub session_last : (call : SessionCall) (place : ℕ) (st : List Held) (x : World) (vs : List Value) (s : Shared) (q : Messages) →
      slice_get code place ≡ Some (invokestatic (session_reference p call)) → AllFit p x vs (session_params call) →
      length st + left_by (Some (session_result call)) ≤ max_stack p m → Holds inputs q me s.events →
      F (V (place + 1) st) (A place (st ++ map flat vs) s q) (session inputs call vs s)
  session_last calls.Send place st x vs s q at (worlds.value (worlds.text {t = a}) (worlds.value (worlds.text {t = b}) worlds.no_values))
      room holds =
      sends_go place st (held.Text a ∷ held.Text b ∷ []) a b carried.Nothing s q
      (step_takes p os program me r m code runs place (st ++ held.Text a ∷ held.Text b ∷ []) ls s q
      (invokestatic (session_reference p calls.Send)) (Use built.Send) at refl st (held.Text a ∷ held.Text b ∷ []) (text ∷ text ∷ []) 0 refl
      refl (refl, (refl, tt)) room)
      holds (holds.peers a)
  session_last calls.SendInt place st x vs s q at
      (worlds.value (worlds.text {t = a}) (worlds.value (worlds.text {t = b}) (worlds.value (worlds.int {z = z}) worlds.no_values))) room
      holds =
      sends_go place st (held.Text a ∷ held.Text b ∷ held.Int z ∷ []) a b (carried.Int z) s q
      (step_takes p os program me r m code runs place (st ++ held.Text a ∷ held.Text b ∷ held.Int z ∷ []) ls s q
      (invokestatic (session_reference p calls.SendInt)) (Use built.SendInt) at refl st (held.Text a ∷ held.Text b ∷ held.Int z ∷ [])
      (text ∷ text ∷ number ∷ []) 0 refl refl (refl, (refl, (refl, tt))) room)
      holds (holds.peers a)
  session_last calls.SendBoolean place st x vs s q at
      (worlds.value (worlds.text {t = a}) (worlds.value (worlds.text {t = b}) (worlds.value (worlds.truth {b = true}) worlds.no_values)))
      room holds =
      sends_go place st (held.Text a ∷ held.Text b ∷ flat (values.Truth true) ∷ []) a b (carried.Truth true) s q
      (step_takes p os program me r m code runs place (st ++ held.Text a ∷ held.Text b ∷ flat (values.Truth true) ∷ []) ls s q
      (invokestatic (session_reference p calls.SendBoolean)) (Use built.SendTruth) at refl st
      (held.Text a ∷ held.Text b ∷ flat (values.Truth true) ∷ []) (text ∷ text ∷ number ∷ []) 0 refl refl (refl, (refl, (refl, tt)))
      room)
      holds (holds.peers a)
  session_last calls.SendBoolean place st x vs s q at
      (worlds.value (worlds.text {t = a}) (worlds.value (worlds.text {t = b}) (worlds.value (worlds.truth {b = false}) worlds.no_values)))
      room holds =
      sends_go place st (held.Text a ∷ held.Text b ∷ flat (values.Truth false) ∷ []) a b (carried.Truth false) s q
      (step_takes p os program me r m code runs place (st ++ held.Text a ∷ held.Text b ∷ flat (values.Truth false) ∷ []) ls s q
      (invokestatic (session_reference p calls.SendBoolean)) (Use built.SendTruth) at refl st
      (held.Text a ∷ held.Text b ∷ flat (values.Truth false) ∷ []) (text ∷ text ∷ number ∷ []) 0 refl refl (refl, (refl, (refl, tt)))
      room)
      holds (holds.peers a)
  session_last calls.SendString place st x vs s q at
      (worlds.value (worlds.text {t = a}) (worlds.value (worlds.text {t = b}) (worlds.value (worlds.text {t = c}) worlds.no_values))) room
      holds =
      sends_go place st (held.Text a ∷ held.Text b ∷ held.Text c ∷ []) a b (carried.Text c) s q
      (step_takes p os program me r m code runs place (st ++ held.Text a ∷ held.Text b ∷ held.Text c ∷ []) ls s q
      (invokestatic (session_reference p calls.SendString)) (Use built.SendText) at refl st (held.Text a ∷ held.Text b ∷ held.Text c ∷ [])
      (text ∷ text ∷ text ∷ []) 0 refl refl (refl, (refl, (refl, tt))) room)
      holds (holds.peers a)
  session_last calls.Look place st x vs s q at (worlds.value (worlds.text {t = a}) worlds.no_values) room holds =
      looks_go place st (held.Text a ∷ []) a s q
      (step_takes p os program me r m code runs place (st ++ held.Text a ∷ []) ls s q
      (invokestatic (session_reference p calls.Look)) (Use built.Look) at refl st (held.Text a ∷ []) (text ∷ []) 1 refl refl (refl, tt)
      room)
      holds
  session_last calls.Take place st x vs s q at (worlds.value (worlds.text {t = a}) (worlds.value (worlds.text {t = b}) worlds.no_values))
      room
      holds =
      takes_go NoPayload nothing_in nothing_taken place st (held.Text a ∷ held.Text b ∷ []) a b s q
      (step_takes p os program me r m code runs place (st ++ held.Text a ∷ held.Text b ∷ []) ls s q
      (invokestatic (session_reference p calls.Take)) (Use built.Take) at refl st (held.Text a ∷ held.Text b ∷ []) (text ∷ text ∷ []) 0 refl
      refl (refl, (refl, tt)) room)
      holds
  session_last calls.TakeInt place st x vs s q at (worlds.value (worlds.text {t = a}) (worlds.value (worlds.text {t = b}) worlds.no_values))
      room
      holds =
      takes_go IntPayload int_in int_taken place st (held.Text a ∷ held.Text b ∷ []) a b s q
      (step_takes p os program me r m code runs place (st ++ held.Text a ∷ held.Text b ∷ []) ls s q
      (invokestatic (session_reference p calls.TakeInt)) (Use built.TakeInt) at refl st (held.Text a ∷ held.Text b ∷ []) (text ∷ text ∷ [])
      1 refl refl (refl, (refl, tt)) room)
      holds
  session_last calls.TakeBoolean place st x vs s q at
      (worlds.value (worlds.text {t = a}) (worlds.value (worlds.text {t = b}) worlds.no_values)) room
      holds =
      takes_go TruthPayload truth_in truth_taken place st (held.Text a ∷ held.Text b ∷ []) a b s q
      (step_takes p os program me r m code runs place (st ++ held.Text a ∷ held.Text b ∷ []) ls s q
      (invokestatic (session_reference p calls.TakeBoolean)) (Use built.TakeTruth) at refl st (held.Text a ∷ held.Text b ∷ [])
      (text ∷ text ∷ []) 1 refl refl (refl, (refl, tt)) room)
      holds
  session_last calls.TakeString place st x vs s q at
      (worlds.value (worlds.text {t = a}) (worlds.value (worlds.text {t = b}) worlds.no_values)) room
      holds =
      takes_go TextPayload text_in text_taken place st (held.Text a ∷ held.Text b ∷ []) a b s q
      (step_takes p os program me r m code runs place (st ++ held.Text a ∷ held.Text b ∷ []) ls s q
      (invokestatic (session_reference p calls.TakeString)) (Use built.TakeText) at refl st (held.Text a ∷ held.Text b ∷ [])
      (text ∷ text ∷ []) 1 refl refl (refl, (refl, tt)) room)
      holds
  session_last calls.Refuse place st x vs s q at (worlds.value (worlds.text {t = a}) (worlds.value (worlds.text {t = b}) worlds.no_values))
      room
      holds =
      refuses_go place st (held.Text a ∷ held.Text b ∷ []) a b s q
      (step_takes p os program me r m code runs place (st ++ held.Text a ∷ held.Text b ∷ []) ls s q
      (invokestatic (session_reference p calls.Refuse)) (Use built.Refuse) at refl st (held.Text a ∷ held.Text b ∷ []) (text ∷ text ∷ []) 0
      refl refl (refl, (refl, tt)) room)
      (holds.peers a)
