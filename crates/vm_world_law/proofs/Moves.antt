-- What a step does to the lists of messages, and the same step on longer lists.
use Rattle.std.proofs.Common.{◌≡◌, ◌≢◌, ◌⊎◌, inl, inr, ℕ, ◌<◌, true, false, List, [], ◌∷◌, ◌++◌, length, Option, Some, None, position, refl}
use Rattle.std.proofs.Common.{sym, ap, ◌∙◌, subst}
use Rattle.std.specs.Prelude.{◌==◌}
use Rattle.std.specs.Str.{bytes_eq}
use Rattle.std.proofs.lemmas.Bool.Decides.{eqb_tells}
use Rattle.mg_text.specs.Call.{Name}
use Rattle.mg_text.specs.declared.event.Event.{Event}
use Rattle.mg_text.specs.declared.event.Event.TheVariants as seen
use Rattle.mg_text.specs.declared.event.Sent.{Sent}
use Rattle.vm_model.specs.Program.{Program}
use Rattle.vm_model.specs.Messages.{Messages, on_way, with_list, sending}
use Rattle.vm_model.specs.Machine.{Machine, Stepped, Went, Waits, Stops, Steps, none, more}
use Rattle.vm_model.specs.Step.{step, other_role}
use Rattle.vm_world_law.specs.Doing.{Answer, Looks, Takes, Refuses, Doing, Goes, Ends, Sends, Receives, answers, receives, done, IsQuiet}
use Rattle.vm_world_law.specs.Doing.{IsDoing}
use Rattle.vm_world_law.specs.Laws.{Longer, StepsOn}
use Rattle.vm_world_law.proofs.Doing.{does_one}
use Rattle.vm_world_law.proofs.Ways.{still_by, set_some, other_is, named_within}

-- an event that sends and takes nothing
abbrev pub IsStill : Option Event → Type 0
IsStill (Some (seen.Send peer label payload)) = ⊥
IsStill (Some (seen.Take peer label payload)) = ⊥
IsStill _ = Unit {0}

-- what the step of a role does to the messages
pub data Moves (me : ℕ) (q : Messages) : Option Event → Messages → Type 0 where
  stays : {event : Option Event} → IsStill event → Moves me q event q
  sends : (to : ℕ) (peer : Name) (message : Sent) → other_role me (position (bytes_eq peer) q.roles) ≡ Some to →
      Moves me q (Some (seen.Send peer message.label message.payload)) (sending q me to message)
  takes : (from : ℕ) (peer : Name) (message : Sent) (rest : List Sent) → other_role me (position (bytes_eq peer) q.roles) ≡ Some from →
      on_way q from me ≡ message ∷ rest →
      Moves me q (Some (seen.Take peer message.label message.payload)) (with_list q from me rest)

abbrev pub MovesTo : (me : ℕ) → Messages → Stepped → Type 0
MovesTo me q (Went n q' event) = Moves me q event q'
MovesTo me q _ = Unit {0}

-- what a step does on longer lists
abbrev pub GoesAlike : (me : ℕ) (later : ℕ → List Sent) → Stepped → Stepped → Type 0
GoesAlike me later (Went n q event) s = (q' : Messages) × (s ≡ Went n q' event) × Longer me later q q'
GoesAlike me later (Waits peer) s = later peer ≡ [] → s ≡ Waits peer
GoesAlike me later (Stops ending) s = s ≡ Stops ending

quiet_still : (event : Option Event) → IsQuiet event → IsStill event
quiet_still None h = tt
quiet_still (Some (seen.Print text)) h = tt
quiet_still (Some (seen.Made object class)) h = tt
quiet_still (Some (seen.Enter object method)) h = tt
quiet_still (Some (seen.Leave object answer)) h = tt
quiet_still (Some (seen.Send peer label payload)) h = absurd h
quiet_still (Some (seen.Look peer label)) h = absurd h
quiet_still (Some (seen.Take peer label payload)) h = absurd h

module _ (me : ℕ) (q : Messages) where
  answer_moves : (from : ℕ) (peer : Name) (message : Sent) (rest : List Sent) (a : Answer) →
      other_role me (position (bytes_eq peer) q.roles) ≡ Some from → on_way q from me ≡ message ∷ rest →
      MovesTo me q (answers q me from peer message rest a)
  answer_moves from peer message rest (Looks m) named way = stays tt
  answer_moves from peer message rest (Takes m) named way = takes from peer message rest named way
  answer_moves from peer message rest Refuses named way = tt

  receive_moves : (from : ℕ) (peer : Name) (a : Sent → Answer) (list : List Sent) →
      other_role me (position (bytes_eq peer) q.roles) ≡ Some from → on_way q from me ≡ list → MovesTo me q (receives q me from peer a list)
  receive_moves from peer a [] named way = tt
  receive_moves from peer a (message ∷ rest) named way = answer_moves from peer message rest (a message) named way

  done_moves : (d : Doing) → IsDoing q.roles me d → MovesTo me q (done q me d)
  done_moves (Goes m event) right = stays (quiet_still event right)
  done_moves (Ends ending) right = tt
  done_moves (Sends m to peer message) right = sends to peer message right
  done_moves (Receives from peer a) right = receive_moves from peer a (on_way q from me) right refl

  pub step_moves : (p : Program) (m : Machine) → MovesTo me q (step p me m q)
  step_moves p m =
      let one = does_one q.roles me p m in
      subst (MovesTo me q) (sym (one.is q refl)) (done_moves one.doing one.right)

module _ (me : ℕ) (later : ℕ → List Sent) where
  -- a message that the role sends
  sent_longer : (q q' : Messages) (to : ℕ) (message : Sent) → to ≢ me → Longer me later q q' →
      Longer me later (sending q me to message) (sending q' me to message)
  sent_longer q q' to message apart h = record {
    roles = h.roles;
    lists = λ from lt other.
        still_by q' from me me to (on_way q' me to ++ message ∷ []) other
        ∙ h.lists from lt other
        ∙ ap (λ l. l ++ later from) (sym (still_by q from me me to (on_way q me to ++ message ∷ []) other));
  }

  -- a message that it takes
  took_longer : (q q' : Messages) (from : ℕ) (message : Sent) (rest : List Sent) → on_way q from me ≡ message ∷ rest →
      on_way q' from me ≡ message ∷ (rest ++ later from) → Longer me later q q' →
      Longer me later (with_list q from me rest) (with_list q' from me (rest ++ later from))
  took_longer q q' from message rest way way' h =
      record { roles = h.roles; lists = λ other lt apart. go other lt apart (eqb_tells other from) }
    where
      go : (other : ℕ) → other < length q.roles → other ≢ me → ((other == from) ≡ true) × (other ≡ from) ⊎ ((other == from) ≡ false)
          × (other ≢ from) →
          on_way (with_list q' from me (rest ++ later from)) other me ≡ on_way (with_list q from me rest) other me ++ later other
      go other lt apart (inl is) =
          ap (λ k. on_way (with_list q' from me (rest ++ later from)) k me) is.1
          ∙ set_some q' from me (rest ++ later from) message (rest ++ later from) way'
          ∙ ap (λ l. l ++ later from) (sym (set_some q from me rest message rest way))
          ∙ sym (ap (λ k. on_way (with_list q from me rest) k me ++ later k) is.1)
      go other lt apart (inr is) =
          still_by q' other me from me (rest ++ later from) is.1
          ∙ h.lists other lt apart
          ∙ ap (λ l. l ++ later other) (sym (still_by q other me from me rest is.1))

  answer_alike : (q q' : Messages) (from : ℕ) (peer : Name) (message : Sent) (rest : List Sent) (a : Answer) →
      on_way q from me ≡ message ∷ rest →
      on_way q' from me ≡ message ∷ (rest ++ later from) → Longer me later q q' →
      GoesAlike me later (answers q me from peer message rest a) (answers q' me from peer message (rest ++ later from) a)
  answer_alike q q' from peer message rest (Looks m) way way' h = (q', refl, h)
  answer_alike q q' from peer message rest (Takes m) way way' h =
      (with_list q' from me (rest ++ later from), refl, took_longer q q' from message rest way way' h)
  answer_alike q q' from peer message rest Refuses way way' h = refl

  receive_alike : (q q' : Messages) (from : ℕ) (peer : Name) (a : Sent → Answer) (list : List Sent) → on_way q from me ≡ list →
      on_way q' from me ≡ list ++ later from → Longer me later q q' →
      GoesAlike me later (receives q me from peer a list) (receives q' me from peer a (list ++ later from))
  receive_alike q q' from peer a [] way way' h = λ nothing. ap (receives q' me from peer a) nothing
  receive_alike q q' from peer a (message ∷ rest) way way' h = answer_alike q q' from peer message rest (a message) way way' h

  done_alike : (q q' : Messages) (d : Doing) → IsDoing q.roles me d → Longer me later q q' → GoesAlike me later (done q me d) (done q' me d)
  done_alike q q' (Goes m event) right h = (q', refl, h)
  done_alike q q' (Ends ending) right h = refl
  done_alike q q' (Sends m to peer message) right h =
      (sending q' me to message, refl, sent_longer q q' to message (other_is me (position (bytes_eq peer) q.roles) to right).apart h)
  done_alike q q' (Receives from peer a) right h =
      let other = other_is me (position (bytes_eq peer) q.roles) from right in
      let way : on_way q' from me ≡ on_way q from me ++ later from = h.lists from (named_within q.roles peer from other.is) other.apart in
      subst (λ l. GoesAlike me later (receives q me from peer a (on_way q from me)) (receives q' me from peer a l)) (sym way)
      (receive_alike q q' from peer a (on_way q from me) refl way h)

  -- on longer lists a step that doesn't wait does the same, and one that waits does so where nothing came
  pub step_alike : (p : Program) (m : Machine) (q q' : Messages) → Longer me later q q' →
      GoesAlike me later (step p me m q) (step p me m q')
  step_alike p m q q' h =
      let one = does_one q.roles me p m in
      subst (λ s. GoesAlike me later s (step p me m q')) (sym (one.is q refl))
      (subst (λ s. GoesAlike me later (done q me one.doing) s) (sym (one.is q' h.roles)) (done_alike q q' one.doing one.right h))

  -- so does a run
  pub steps_alike : (p : Program) (m : Machine) (q q' : Messages) (count : ℕ) (events : List Event) (n : Machine) (left : Messages) →
      Longer me later q q' → Steps (step p me) m q count events n left → StepsOn p me later m q' count events n left
  steps_alike p m q q' _ _ _ _ h none = record { messages = q'; steps = none; longer = h }
  steps_alike p m q q' _ _ n left h (more {m' = m1} {q' = q1} {e = e} {k = k} {events = events} first rest) =
      let alike : GoesAlike me later (Went m1 q1 e) (step p me m q') = subst (λ s. GoesAlike me later s (step p me m q')) first
      (step_alike p m q q' h) in
      let on = steps_alike p m1 q1 alike.0 k events n left alike.2 rest in
      record { messages = on.messages; steps = more alike.1 on.steps; longer = on.longer }
