-- Calls of `Session` on arguments that fit end well.
use Rattle.std.proofs.Common.{◌≡◌, ◌≢◌, Bool, true, false, List, Option, Some, None, refl, subst}
use Rattle.std.specs.Prelude.{if◌then◌else◌, slice_get}
use Rattle.std.specs.Str.{bytes_eq}
use Rattle.mg_text.specs.Call.{Name}
use Rattle.mg_text.specs.declared.event.Event.{Event}
use Rattle.mg_text.specs.declared.event.Event.TheVariants as seen
use Rattle.mg_text.specs.declared.event.Sent.{Sent}
use Rattle.mg_text.specs.declared.event.Carried.{Carried}
use Rattle.mg_text.specs.declared.event.Carried.TheVariants as carried
use Rattle.jv_values.specs.Values.{Value, Shared, Wrong, Inputs, Finish, Mismatch, NoPeer, Wait}
use Rattle.jv_values.specs.Values as values
use Rattle.jv_values.specs.Doing.{Run, ◌>>=◌, give, stop, note, happened}
use Rattle.jv_values.specs.Messages.{messages_of, taken, there_or, peer, next_message, sends, looks, nothing_in, int_in, truth_in, text_in}
use Rattle.jv_values.specs.Messages.{takes, refuses, session}
use Rattle.jv_core.specs.declared.program.CoreType.{CoreType}
use Rattle.jv_core.specs.declared.program.CoreType.TheVariants as types
use Rattle.jv_tree.specs.declared.built_in.SessionCall.{SessionCall}
use Rattle.jv_tree.specs.declared.built_in.SessionCall.TheVariants as calls
use Rattle.jv_core.specs.Tree.{Program}
use Rattle.jv_core.specs.Types.{session_params, session_result}
use Rattle.jv_sound.proofs.Worlds.{World, Extends, Runs, runs_give, runs_then, runs_stop, good_give, Fits, fits_more, GivesA, AllFit}
use Rattle.jv_sound.proofs.Worlds as worlds
use Rattle.jv_sound.proofs.Operators.{Anything}

-- States that stay as they are while more is noted.
module _ (p : Program) (St : World → Shared → Type 0)
    (noted : (w : World) (s : Shared) (events : List Event) → St w s → St w (record s { events = events })) where
  pub note_runs : (w : World) (e : Event) → Runs St (Anything p St) w (note e)
  note_runs w e = record { run = λ x q s h. good_give St (Anything p St) x tt _ (noted x s _ h) tt }

  happened_runs : (w : World) → Runs St (Anything p St) w happened
  happened_runs w = record { run = λ x q s h. good_give St (Anything p St) x s.events s h tt }

  there_runs : {A : Type 0} (w : World) (f : Finish) (o : Option A) → f ≢ Wrong → Runs St (Anything p St) w (there_or f o)
  there_runs w f None n = runs_stop St (Anything p St) w f n
  there_runs w f (Some a) n = runs_give St (Anything p St) w a (λ x q. tt)

  peer_runs : (inputs : Inputs) (w : World) (q : Name) → Runs St (Anything p St) w (peer inputs q)
  peer_runs inputs w q = there_runs w (NoPeer q) (messages_of inputs q) (λ e. cc)

  next_runs : (inputs : Inputs) (w : World) (q : Name) → Runs St (Anything p St) w (next_message inputs q)
  next_runs inputs w q = runs_then St (Anything p St) (Anything p St) w (peer inputs q)
      (λ ms. happened >>= λ events. there_or (Wait q) (slice_get ms (taken q events))) (peer_runs inputs w q)
      (λ x ms z u. runs_then St (Anything p St) (Anything p St) x happened (λ events. there_or (Wait q) (slice_get ms (taken q events)))
      (happened_runs x)
      (λ y events z u. there_runs y (Wait q) (slice_get ms (taken q events)) (λ e. cc)))

  abbrev Result : CoreType → World → Option Value → Type 0
  Result t w r = GivesA p w r t

  sends_runs : (inputs : Inputs) (w : World) (q l : Name) (c : Carried) → Runs St (Result types.Void) w (sends inputs q l c)
  sends_runs inputs w q l c = runs_then St (Anything p St) (Result types.Void) w (peer inputs q)
      (λ ms. note (seen.Send q l c) >>= λ done. give None) (peer_runs inputs w q)
      (λ x ms z u. runs_then St (Anything p St) (Result types.Void) x (note (seen.Send q l c)) (λ done. give None)
      (note_runs x (seen.Send q l c))
      (λ y d z u. runs_give St (Result types.Void) y None (λ x q. worlds.nothing)))

  looks_runs : (inputs : Inputs) (w : World) (q : Name) → Runs St (Result types.Text) w (looks inputs q)
  looks_runs inputs w q = runs_then St (Anything p St) (Result types.Text) w (next_message inputs q)
      (λ m. note (seen.Look q m.label) >>= λ done. give (Some (values.Text m.label))) (next_runs inputs w q)
      (λ x m z u. runs_then St (Anything p St) (Result types.Text) x (note (seen.Look q m.label))
      (λ done. give (Some (values.Text m.label))) (note_runs x (seen.Look q m.label))
      (λ y d z u. runs_give St (Result types.Text) y (Some (values.Text m.label)) (λ x q. worlds.value worlds.text)))

  -- what a take gives is of this type
  abbrev Takes : CoreType → (Carried → Option (Option Value)) → Type 0
  Takes t within = (c : Carried) (r : Option Value) → within c ≡ Some r → (w : World) → GivesA p w r t

  takes_runs : (inputs : Inputs) (t : CoreType) (within : Carried → Option (Option Value)) → Takes t within → (w : World) (q l : Name) →
      Runs St (Result t) w (takes inputs within q l)
  takes_runs inputs t within is w q l = runs_then St (Anything p St) (Result t) w (next_message inputs q) after (next_runs inputs w q)
      (λ x m z u. which x m (bytes_eq m.label l))
    where
      noting : Sent → Option Value → Run Shared (Option Value)
      noting m r = note (seen.Take q m.label m.payload) >>= λ done. give r

      after : Sent → Run Shared (Option Value)
      after m = there_or (Mismatch q m.label) (if bytes_eq m.label l then within m.payload else None) >>= noting m

      held : (x : World) (m : Sent) (o : Option (Option Value)) → ((r : Option Value) → o ≡ Some r → (w : World) → GivesA p w r t) →
          Runs St (Result t) x (there_or (Mismatch q m.label) o >>= noting m)
      held x m None k = record { run = λ y z s h e. cc }
      held x m (Some r) k = runs_then St (Anything p St) (Result t) x (note (seen.Take q m.label m.payload)) (λ done. give r)
          (note_runs x (seen.Take q m.label m.payload))
          (λ y d z u. runs_give St (Result t) y r (λ v z. k r refl v))

      which : (x : World) (m : Sent) (b : Bool) → Runs St (Result t) x
          (there_or (Mismatch q m.label) (if b then within m.payload else None) >>= noting m)
      which x m true = held x m (within m.payload) (is m.payload)
      which x m false = held x m None (λ r e. absurd (cc))

  takes_nothing : Takes types.Void nothing_in
  takes_nothing carried.Nothing r e w = subst (λ r. GivesA p w r types.Void) (some e) worlds.nothing
    where
      some : Some None ≡ Some r → None ≡ r
      some e = cc
  takes_nothing (carried.Int z) r e w = absurd (cc)
  takes_nothing (carried.Truth b) r e w = absurd (cc)
  takes_nothing (carried.Text t) r e w = absurd (cc)

  takes_int : Takes types.Int int_in
  takes_int (carried.Int z) r e w = subst (λ r. GivesA p w r types.Int) (some e) (worlds.value worlds.int)
    where
      some : Some (Some (values.Int z)) ≡ Some r → Some (values.Int z) ≡ r
      some e = cc
  takes_int carried.Nothing r e w = absurd (cc)
  takes_int (carried.Truth b) r e w = absurd (cc)
  takes_int (carried.Text t) r e w = absurd (cc)

  takes_truth : Takes types.Boolean truth_in
  takes_truth (carried.Truth b) r e w = subst (λ r. GivesA p w r types.Boolean) (some e) (worlds.value worlds.truth)
    where
      some : Some (Some (values.Truth b)) ≡ Some r → Some (values.Truth b) ≡ r
      some e = cc
  takes_truth carried.Nothing r e w = absurd (cc)
  takes_truth (carried.Int z) r e w = absurd (cc)
  takes_truth (carried.Text t) r e w = absurd (cc)

  takes_text : Takes types.Text text_in
  takes_text (carried.Text t) r e w = subst (λ r. GivesA p w r types.Text) (some e) (worlds.value worlds.text)
    where
      some : Some (Some (values.Text t)) ≡ Some r → Some (values.Text t) ≡ r
      some e = cc
  takes_text carried.Nothing r e w = absurd (cc)
  takes_text (carried.Int z) r e w = absurd (cc)
  takes_text (carried.Truth b) r e w = absurd (cc)

  refuses_runs : (inputs : Inputs) (t : CoreType) (w : World) (q f : Name) → Runs St (Result t) w (refuses inputs q f)
  refuses_runs inputs t w q f = runs_then St (Anything p St) (Result t) w (peer inputs q) (λ ms. stop (Mismatch q f))
      (peer_runs inputs w q) (λ x ms z u. runs_stop St (Result t) x (Mismatch q f) (λ e. cc))

  pub session_runs : (inputs : Inputs) (c : SessionCall) (w : World) (vs : List Value) → AllFit p w vs (session_params c) →
      Runs St (Result (session_result c)) w (session inputs c vs)
  session_runs inputs calls.Send w vs (worlds.value (worlds.text {t = q}) (worlds.value (worlds.text {t = l}) worlds.no_values)) =
      sends_runs inputs w q l carried.Nothing
  session_runs inputs calls.SendInt w vs (worlds.value (worlds.text {t = q})
      (worlds.value (worlds.text {t = l}) (worlds.value (worlds.int {z = z}) worlds.no_values))) = sends_runs inputs w q l (carried.Int z)
  session_runs inputs calls.SendBoolean w vs (worlds.value (worlds.text {t = q})
      (worlds.value (worlds.text {t = l}) (worlds.value (worlds.truth {b = b}) worlds.no_values))) =
      sends_runs inputs w q l (carried.Truth b)
  session_runs inputs calls.SendString w vs (worlds.value (worlds.text {t = q})
      (worlds.value (worlds.text {t = l}) (worlds.value (worlds.text {t = t}) worlds.no_values))) =
      sends_runs inputs w q l (carried.Text t)
  session_runs inputs calls.Look w vs (worlds.value (worlds.text {t = q}) worlds.no_values) = looks_runs inputs w q
  session_runs inputs calls.Take w vs (worlds.value (worlds.text {t = q}) (worlds.value (worlds.text {t = l}) worlds.no_values)) =
      takes_runs inputs types.Void nothing_in takes_nothing w q l
  session_runs inputs calls.TakeInt w vs (worlds.value (worlds.text {t = q}) (worlds.value (worlds.text {t = l}) worlds.no_values)) =
      takes_runs inputs types.Int int_in takes_int w q l
  session_runs inputs calls.TakeBoolean w vs (worlds.value (worlds.text {t = q})
      (worlds.value (worlds.text {t = l}) worlds.no_values)) = takes_runs inputs types.Boolean truth_in takes_truth w q l
  session_runs inputs calls.TakeString w vs (worlds.value (worlds.text {t = q}) (worlds.value (worlds.text {t = l}) worlds.no_values)) =
      takes_runs inputs types.Text text_in takes_text w q l
  session_runs inputs calls.Refuse w vs (worlds.value (worlds.text {t = q}) (worlds.value (worlds.text {t = f}) worlds.no_values)) =
      refuses_runs inputs types.Void w q f
