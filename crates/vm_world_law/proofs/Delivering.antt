-- What a turn changes in what was sent, what was taken and what is on its way.
use Rattle.std.proofs.Common.{◌≡◌, ◌≢◌, ◌⊎◌, inl, inr, ℕ, ◌<◌, true, false, List, [], ◌∷◌, ◌++◌, length, map, Option, Some, position, refl}
use Rattle.std.proofs.Common.{sym, ap, ◌∙◌, subst, append_assoc, append-nil}
use Rattle.std.specs.Prelude.{◌==◌, slice_get}
use Rattle.std.specs.List.{IsDistinct}
use Rattle.std.specs.Str.{bytes_eq}
use Rattle.std.proofs.lemmas.Bool.Decides.{eqb_tells}
use Rattle.mg_text.specs.Call.{Name}
use Rattle.mg_text.specs.declared.event.Event.{Event}
use Rattle.mg_text.specs.declared.event.Event.TheVariants as seen
use Rattle.mg_text.specs.declared.event.Sent.{Sent}
use Rattle.vm_model.specs.Messages.{Messages, or_nothing, on_way, with_list, sending}
use Rattle.vm_model.specs.Machine.{noted}
use Rattle.vm_model.specs.Step.{other_role}
use Rattle.vm_world_law.specs.World.{Role, World, of_role, events_of, sent_to, taken_from, name_of, sent, took}
use Rattle.vm_world_law.specs.Laws.{Delivers}
use Rattle.vm_world_law.proofs.Ways.{still_by, still_to, set_some, set_square_way, IsSquare, other_is, named_within, set_square}
use Rattle.vm_world_law.proofs.Moves.{IsStill, Moves, stays, sends, takes}
use Rattle.vm_world_law.proofs.Events.{own_more, others_more, sent_still, taken_still, take_sends_none, send_takes_none, sent_here}
use Rattle.vm_world_law.proofs.Events.{sent_elsewhere, taken_here, taken_elsewhere}

-- the world behind a step of the role `s`, which may have told of an event
abbrev pub behind : World → ℕ → List Role → Messages → Option Event → World
behind w s roles q e = record { roles = roles; messages = q; events = w.events ++ map (of_role s) (noted e) }

-- What one role sends to another grows by some messages, and so does the list between them.
pub record Grown (w v : World) (from to : ℕ) : Type 0 where
  pub extra : List Sent
  pub sent_is : sent v from to ≡ sent w from to ++ extra
  pub way_is : on_way v.messages from to ≡ on_way w.messages from to ++ extra

module _ (w : World) (s : ℕ) (roles : List Role) where
  abbrev pub Names : Type 0
  Names = List Name

  -- what others sent and took stays
  pub sent_by_others : (q : Messages) (e : Option Event) (from to : ℕ) → q.roles ≡ w.messages.roles → from ≢ s →
      sent (behind w s roles q e) from to ≡ sent w from to
  sent_by_others q e from to same apart =
      ap (λ es. sent_to (or_nothing (slice_get q.roles to)) es) (others_more from s w.events (noted e) apart)
      ∙ ap (λ names. sent_to (or_nothing (slice_get names to)) (events_of from w.events)) same

  pub took_by_others : (q : Messages) (e : Option Event) (to from : ℕ) → q.roles ≡ w.messages.roles → to ≢ s →
      took (behind w s roles q e) to from ≡ took w to from
  took_by_others q e to from same apart =
      ap (λ es. taken_from (or_nothing (slice_get q.roles from)) es) (others_more to s w.events (noted e) apart)
      ∙ ap (λ names. taken_from (or_nothing (slice_get names from)) (events_of to w.events)) same

  -- what a role without messages sent and took stays
  sent_quiet : (e : Option Event) (from to : ℕ) → IsStill e → sent (behind w s roles w.messages e) from to ≡ sent w from to
  sent_quiet e from to still = go (eqb_tells from s)
    where
      go : ((from == s) ≡ true) × (from ≡ s) ⊎ ((from == s) ≡ false) × (from ≢ s) → sent (behind w s roles w.messages e) from to ≡ sent w
          from to
      go (inl is) =
          ap (λ k. sent (behind w s roles w.messages e) k to) is.1
          ∙ ap (λ es. sent_to (name_of w to) es) (own_more s w.events (noted e))
          ∙ sent_still (name_of w to) (events_of s w.events) e still
          ∙ sym (ap (λ k. sent w k to) is.1)
      go (inr is) = sent_by_others w.messages e from to refl is.1

  took_quiet : (e : Option Event) (to from : ℕ) → IsStill e → took (behind w s roles w.messages e) to from ≡ took w to from
  took_quiet e to from still = go (eqb_tells to s)
    where
      go : ((to == s) ≡ true) × (to ≡ s) ⊎ ((to == s) ≡ false) × (to ≢ s) → took (behind w s roles w.messages e) to from ≡ took w to from
      go (inl is) =
          ap (λ k. took (behind w s roles w.messages e) k from) is.1
          ∙ ap (λ es. taken_from (name_of w from) es) (own_more s w.events (noted e))
          ∙ taken_still (name_of w from) (events_of s w.events) e still
          ∙ sym (ap (λ k. took w k from) is.1)
      go (inr is) = took_by_others w.messages e to from refl is.1

  -- a send takes nothing, and a take sends nothing
  took_at_send : (q : Messages) (peer label : Name) (payload : _) (to from : ℕ) → q.roles ≡ w.messages.roles →
      took (behind w s roles q (Some (seen.Send peer label payload))) to from ≡ took w to from
  took_at_send q peer label payload to from same = go (eqb_tells to s)
    where
      go : ((to == s) ≡ true) × (to ≡ s) ⊎ ((to == s) ≡ false) × (to ≢ s) →
          took (behind w s roles q (Some (seen.Send peer label payload))) to from ≡ took w to from
      go (inl is) =
          ap (λ k. took (behind w s roles q (Some (seen.Send peer label payload))) k from) is.1
          ∙ ap (λ es. taken_from (or_nothing (slice_get q.roles from)) es)
          (own_more s w.events (noted (Some (seen.Send peer label payload))))
          ∙ send_takes_none (or_nothing (slice_get q.roles from)) (events_of s w.events) peer label payload
          ∙ ap (λ names. taken_from (or_nothing (slice_get names from)) (events_of s w.events)) same
          ∙ sym (ap (λ k. took w k from) is.1)
      go (inr is) = took_by_others q (Some (seen.Send peer label payload)) to from same is.1

  sent_at_take : (q : Messages) (peer label : Name) (payload : _) (from to : ℕ) → q.roles ≡ w.messages.roles →
      sent (behind w s roles q (Some (seen.Take peer label payload))) from to ≡ sent w from to
  sent_at_take q peer label payload from to same = go (eqb_tells from s)
    where
      go : ((from == s) ≡ true) × (from ≡ s) ⊎ ((from == s) ≡ false) × (from ≢ s) →
          sent (behind w s roles q (Some (seen.Take peer label payload))) from to ≡ sent w from to
      go (inl is) =
          ap (λ k. sent (behind w s roles q (Some (seen.Take peer label payload))) k to) is.1
          ∙ ap (λ es. sent_to (or_nothing (slice_get q.roles to)) es) (own_more s w.events (noted (Some (seen.Take peer label payload))))
          ∙ take_sends_none (or_nothing (slice_get q.roles to)) (events_of s w.events) peer label payload
          ∙ ap (λ names. sent_to (or_nothing (slice_get names to)) (events_of s w.events)) same
          ∙ sym (ap (λ k. sent w k to) is.1)
      go (inr is) = sent_by_others q (Some (seen.Take peer label payload)) from to same is.1

  module _ (distinct : IsDistinct bytes_eq w.messages.roles) (square : IsSquare w.messages) (within : s < length w.messages.roles) where
    -- Sends.
    module _ (to : ℕ) (peer : Name) (message : Sent) (named : other_role s (position (bytes_eq peer) w.messages.roles) ≡ Some to) where
      abbrev sent_event : Option Event
      sent_event = Some (seen.Send peer message.label message.payload)

      abbrev sent_list : List Sent
      sent_list = on_way w.messages s to ++ message ∷ []

      abbrev behind_send : World
      behind_send = behind w s roles (sending w.messages s to message) sent_event

      send_grows : (from other : ℕ) → other < length w.messages.roles → Grown w behind_send from other
      send_grows from other lt = by_sender (eqb_tells from s) (eqb_tells other to)
        where
          place : position (bytes_eq peer) w.messages.roles ≡ Some to
          place = (other_is s (position (bytes_eq peer) w.messages.roles) to named).is

          by_sender : ((from == s) ≡ true) × (from ≡ s) ⊎ ((from == s) ≡ false) × (from ≢ s) →
              ((other == to) ≡ true) × (other ≡ to) ⊎ ((other == to) ≡ false) × (other ≢ to) → Grown w behind_send from other
          by_sender (inl f) (inl t) =
              let lt' : to < length w.messages.roles = named_within w.messages.roles peer to place in
              subst (λ k. Grown w behind_send k other) (sym f.1)
              (subst (λ k. Grown w behind_send s k) (sym t.1)
              (record {
                extra = message ∷ [];
                sent_is = ap (λ es. sent_to (name_of w to) es) (own_more s w.events (noted sent_event))
                    ∙ sent_here w.messages.roles distinct to peer message place (events_of s w.events) lt';
                way_is = set_square_way w.messages s to sent_list square within lt';
              }))
          by_sender (inl f) (inr t) =
              subst (λ k. Grown w behind_send k other) (sym f.1)
              (record {
                extra = [];
                sent_is = ap (λ es. sent_to (name_of w other) es) (own_more s w.events (noted sent_event))
                    ∙ sent_elsewhere w.messages.roles distinct to peer message place (events_of s w.events) other lt t.1
                    ∙ sym (append-nil (sent w s other));
                way_is = still_to w.messages s other s to sent_list t.1 ∙ sym (append-nil (on_way w.messages s other));
              })
          by_sender (inr f) t = record {
            extra = [];
            sent_is = sent_by_others (sending w.messages s to message) sent_event from other refl f.1 ∙
                sym (append-nil (sent w from other));
            way_is = still_by w.messages from other s to sent_list f.1 ∙ sym (append-nil (on_way w.messages from other));
          }

      send_delivers : Delivers w → Delivers behind_send
      send_delivers h from other lf lt =
          let g = send_grows from other lt in
          g.sent_is
          ∙ ap (λ l. l ++ g.extra) (h from other lf lt)
          ∙ append_assoc (took w other from) (on_way w.messages from other) g.extra
          ∙ ap (λ l. took w other from ++ l) (sym g.way_is)
          ∙ ap (λ l. l ++ on_way (sending w.messages s to message) from other)
          (sym (took_at_send (sending w.messages s to message) peer message.label message.payload other from refl))

    -- Takes.
    module _ (from : ℕ) (peer : Name) (message : Sent) (rest : List Sent)
        (named : other_role s (position (bytes_eq peer) w.messages.roles) ≡ Some from) (way : on_way w.messages from s ≡ message ∷ rest)
      where
        abbrev taken_event : Option Event
        taken_event = Some (seen.Take peer message.label message.payload)

        abbrev behind_take : World
        behind_take = behind w s roles (with_list w.messages from s rest) taken_event

        take_grows : (other to : ℕ) → to ≢ s → Grown w behind_take other to
        take_grows other to apart = record {
          extra = [];
          sent_is = sent_at_take (with_list w.messages from s rest) peer message.label message.payload other to refl ∙
              sym (append-nil (sent w other to));
          way_is = still_to w.messages other to from s rest apart ∙ sym (append-nil (on_way w.messages other to));
        }

        take_delivers : Delivers w → Delivers behind_take
        take_delivers h other to lf lt = by_taker (eqb_tells to s) (eqb_tells other from)
          where
            place : position (bytes_eq peer) w.messages.roles ≡ Some from
            place = (other_is s (position (bytes_eq peer) w.messages.roles) from named).is

            same_sent : sent behind_take other to ≡ sent w other to
            same_sent = sent_at_take (with_list w.messages from s rest) peer message.label message.payload other to refl

            by_taker : ((to == s) ≡ true) × (to ≡ s) ⊎ ((to == s) ≡ false) × (to ≢ s) →
                ((other == from) ≡ true) × (other ≡ from) ⊎ ((other == from) ≡ false) × (other ≢ from) →
                sent behind_take other to ≡ took behind_take to other ++ on_way behind_take.messages other to
            by_taker (inl t) (inl f) =
                same_sent
                ∙ h other to lf lt
                ∙ ap (λ k. took w to k ++ on_way w.messages k to) f.1
                ∙ ap (λ k. took w k from ++ on_way w.messages from k) t.1
                ∙ ap (λ l. took w s from ++ l) way
                ∙ sym (append_assoc (took w s from) (message ∷ []) rest)
                ∙ ap (λ l. l ++ rest) (sym (ap (λ es. taken_from (name_of w from) es) (own_more s w.events (noted taken_event))
                ∙ taken_here w.messages.roles distinct from peer message place (events_of s w.events)
                (named_within w.messages.roles peer from place)))
                ∙ ap (λ l. took behind_take s from ++ l) (sym (set_some w.messages from s rest message rest way))
                ∙ ap (λ k. took behind_take k from ++ on_way behind_take.messages from k) (sym t.1)
                ∙ ap (λ k. took behind_take to k ++ on_way behind_take.messages k to) (sym f.1)
            by_taker (inl t) (inr f) =
                same_sent
                ∙ h other to lf lt
                ∙ ap (λ k. took w k other ++ on_way w.messages other k) t.1
                ∙ ap (λ l. l ++ on_way w.messages other s)
                (sym (ap (λ es. taken_from (name_of w other) es) (own_more s w.events (noted taken_event))
                ∙ taken_elsewhere w.messages.roles distinct from peer message place (events_of s w.events) other lf f.1))
                ∙ ap (λ l. took behind_take s other ++ l) (sym (still_by w.messages other s from s rest f.1))
                ∙ ap (λ k. took behind_take k other ++ on_way behind_take.messages other k) (sym t.1)
            by_taker (inr t) f =
                same_sent
                ∙ h other to lf lt
                ∙ ap (λ l. l ++ on_way w.messages other to)
                (sym (took_by_others (with_list w.messages from s rest) taken_event to other refl t.1))
                ∙ ap (λ l. took behind_take to other ++ l) (sym (still_to w.messages other to from s rest t.1))

    -- Without messages.
    quiet_grows : (e : Option Event) (from to : ℕ) → IsStill e → Grown w (behind w s roles w.messages e) from to
    quiet_grows e from to still = record {
      extra = [];
      sent_is = sent_quiet e from to still ∙ sym (append-nil (sent w from to));
      way_is = sym (append-nil (on_way w.messages from to));
    }

    quiet_delivers : (e : Option Event) → IsStill e → Delivers w → Delivers (behind w s roles w.messages e)
    quiet_delivers e still h from to lf lt =
        sent_quiet e from to still ∙ h from to lf lt ∙ ap (λ l. l ++ on_way w.messages from to) (sym (took_quiet e to from still))

    -- In all.

    pub delivers : (q : Messages) (e : Option Event) → Moves s w.messages e q → Delivers w → Delivers (behind w s roles q e)
    delivers _ e (stays still) h = quiet_delivers e still h
    delivers _ _ (sends to peer message named) h = send_delivers to peer message named h
    delivers _ _ (takes from peer message rest named way) h = take_delivers from peer message rest named way h

    pub grows : (q : Messages) (e : Option Event) → Moves s w.messages e q → (from to : ℕ) → to < length w.messages.roles → to ≢ s →
        Grown w (behind w s roles q e) from to
    grows _ e (stays still) from to lt apart = quiet_grows e from to still
    grows _ _ (sends other peer message named) from to lt apart = send_grows other peer message named from to lt
    grows _ _ (takes other peer message rest named way) from to lt apart = take_grows other peer message rest named way from to apart

    pub moves_square : (q : Messages) (e : Option Event) → Moves s w.messages e q → IsSquare q
    moves_square _ e (stays still) = square
    moves_square _ _ (sends to peer message named) = set_square w.messages s to (on_way w.messages s to ++ message ∷ []) square
    moves_square _ _ (takes from peer message rest named way) = set_square w.messages from s rest square

    pub moves_roles : (q : Messages) (e : Option Event) → Moves s w.messages e q → q.roles ≡ w.messages.roles
    moves_roles _ e (stays still) = refl
    moves_roles _ _ (sends to peer message named) = refl
    moves_roles _ _ (takes from peer message rest named way) = refl
