-- In which order roles take turns makes no difference to any of them.
use Rattle.std.proofs.Common.{◌≡◌, ◌≢◌, ◌⊎◌, inl, inr, ℕ, zero, suc, ◌<◌, true, false, List, [], ◌∷◌, ◌++◌, length, drop, replicate, Option}
use Rattle.std.proofs.Common.{Some, None, refl, sym, ap, ◌∙◌, subst, append-nil, arith}
use Rattle.std.specs.Prelude.{◌==◌, slice_get}
use Rattle.std.proofs.lemmas.Bool.Decides.{eqb_tells}
use Rattle.std.proofs.lemmas.Grind.{flat_map-append}
use Rattle.mg_text.specs.declared.event.Event.{Event}
use Rattle.mg_text.specs.declared.event.Sent.{Sent}
use Rattle.vm_model.specs.Program.{Program}
use Rattle.vm_model.specs.Messages.{Messages, or_nothing, on_way}
use Rattle.vm_model.specs.Machine.{Machine, Stepped, Went, Waits, Stops, noted}
use Rattle.vm_model.specs.Step.{step}
use Rattle.vm_world_law.specs.World.{State, Runs, Over, Role, World, turn, turns, turn_at, turn_in, stepped, IsFresh, events_of, sent}
use Rattle.vm_world_law.specs.World.{sent_to, message_to, name_of, IsStill, Rests}
use Rattle.vm_world_law.specs.declared.stand.Stand.{Stand}
use Rattle.vm_world_law.specs.Turns.{first_turns, stand_of, stands_from, OrdersAgree}
use Rattle.vm_world_law.specs.Laws.{Begin, Left, Arrives, ComesAlone, Longer, EventsBegin, SameForAll}
use Rattle.vm_world_law.proofs.Lists.{get_within, replicate_there}
use Rattle.vm_world_law.proofs.Moves.{GoesAlike, step_alike}
use Rattle.jv_values.specs.Alike.{Prefix}
use Rattle.vm_world_law.proofs.Events.{others_more}
use Rattle.vm_world_law.proofs.Alone.{Kept, kept_first, kept_by, turn_kept}
use Rattle.vm_world_law.proofs.Same.{same_sent, messages_same, roles_same}
use Rattle.vm_world_law.proofs.Running.{behind_front, each_front, Shows, Final, final_most, final_same}

-- A list of lists by their places.

rows : {A : Type 0} (f : ℕ → A) (n : ℕ) → List A
rows f zero = []
rows f (suc n) = f 0 ∷ rows (λ i. f (suc i)) n

row_at : {A : Type 0} (f : ℕ → A) (n i : ℕ) → i < n → slice_get (rows f n) i ≡ Some (f i)
unfolding rows
row_at f zero i h = absurd (omega (arith, h))
row_at f (suc n) zero h = refl
row_at f (suc n) (suc i) h = row_at (λ k. f (suc k)) n i (omega (arith, h))

-- lists that hold what the others sent to a role
pub held : World → ℕ → Messages
held w r = record {
  roles = w.messages.roles;
  lists = rows (λ from. replicate (length w.messages.roles) (sent w from r)) (length w.messages.roles);
}

pub held_roles : (w : World) (r : ℕ) → (held w r).roles ≡ w.messages.roles
unfolding held
held_roles w r = refl

abbrev pub none_later : ℕ → List Sent
none_later from = []

pub on_held : (w : World) (r from : ℕ) → r < length w.messages.roles → from < length w.messages.roles →
    on_way (held w r) from r ≡ sent w from r
unfolding held
on_held w r from rt ft =
    ap (λ o. or_nothing (slice_get (or_nothing o) r))
    (row_at (λ k. replicate (length w.messages.roles) (sent w k r)) (length w.messages.roles) from ft)
    ∙ ap or_nothing (replicate_there (length w.messages.roles) r (sent w from r) rt)

pub held_begin : (w : World) (r : ℕ) → r < length w.messages.roles → (later : ℕ → List Sent) (v : World) →
    v.messages.roles ≡ w.messages.roles →
    ((from : ℕ) → from < length w.messages.roles → from ≢ r → sent w from r ≡ sent v from r ++ later from) → Begin v r later (held w r)
unfolding held
held_begin w r within later v names all = record {
  roles = sym names;
  lists = λ from ft apart.
      let lt : from < length w.messages.roles = subst (λ l. from < length l) names ft in
      on_held w r from within lt ∙ all from lt apart;
}

pub held_all : (w : World) (r : ℕ) → r < length w.messages.roles → Begin w r none_later (held w r)
held_all w r within = held_begin w r within (λ from. []) w refl (λ from lt apart. sym (append-nil (sent w from r)))

-- what was sent is a prefix where the events are
sent_front : (names : _) (es fs : List Event) → Prefix es fs → Prefix (sent_to names es) (sent_to names fs)
sent_front names es fs h = record {
  later = sent_to names h.later;
  is = ap (sent_to names) h.is ∙ flat_map-append (message_to names) es h.later;
}

module _ (p : Program) (first : World) where
  -- a run of the role's machine alone
  shows_of : (w : World) (r : ℕ) (later : ℕ → List Sent) (start : Machine) (q : Messages) (count : ℕ) (state : State) →
      ComesAlone p w r later start q count state → Shows (step p r) start q (events_of r w.events)
  shows_of w r later start q count (Runs m) h = record { steps = count; last = m; left = h.messages; leads = h.steps }
  shows_of w r later start q count (Over ending) h = record { steps = h.steps; last = h.last; left = h.messages; leads = h.leads }

  -- and where the role is still it halts
  final_of : (w : World) (r : ℕ) (start : Machine) (q : Messages) (count : ℕ) (state : State) →
      ComesAlone p w r none_later start q count state → IsStill p w r state →
      Final (step p r) start q (events_of r w.events) (record { state = state; count = count })
  final_of w r start q count (Runs m) h still =
      let longer : Longer r none_later w.messages h.messages = record { roles = h.left.roles; lists = h.left.lists } in
      let alike : GoesAlike r none_later (Waits still.0) (step p r m h.messages) =
      subst (λ x. GoesAlike r none_later x (step p r m h.messages)) still.1 (step_alike r none_later p m w.messages h.messages longer) in
      record {
        shows = record { steps = count; last = m; left = h.messages; leads = h.steps };
        out = Waits still.0;
        is = alike refl;
        halts = tt;
        stands = refl;
      }
  final_of w r start q count (Over ending) h still = record {
    shows = record { steps = h.steps; last = h.last; left = h.messages; leads = h.leads };
    out = Stops ending;
    is = h.stops;
    halts = tt;
    stands = ap (λ k. record { state = Over ending; count = k }) (let e : count ≡ suc h.steps = omega (arith, h.counted) in e);
  }

  module _ (fresh : IsFresh first) (w : World) (kept : Kept p first w) (rests : Rests p w) where
    module _ (v : World) (kept' : Kept p first v) (r : ℕ) (within : r < length w.messages.roles)
        (fronts : (from : ℕ) → from < length w.messages.roles → from ≢ r → Prefix (events_of from v.events) (events_of from w.events)) where
      names : v.messages.roles ≡ w.messages.roles
      names = kept'.names ∙ sym kept.names

      later : ℕ → List Sent
      later from = drop (length (sent v from r)) (sent w from r)

      sent_so : (from : ℕ) → from < length w.messages.roles → from ≢ r → sent w from r ≡ sent v from r ++ later from
      unfolding later
      sent_so from lt apart =
          behind_front (sent v from r) (sent w from r)
          (subst (λ l. Prefix (sent_to (or_nothing (slice_get l r)) (events_of from v.events)) (sent w from r)) (sym names)
          (sent_front (name_of w r) (events_of from v.events) (events_of from w.events) (fronts from lt apart)))

      at_first : (role : Role) × (slice_get first.roles r ≡ Some role)
      at_first = get_within first.roles r
          (subst (λ n. r < n) (ap length kept.names ∙ sym fresh.as_many) within)

      at_w : (role : Role) × (slice_get w.roles r ≡ Some role)
      at_w = get_within w.roles r (subst (λ n. r < n) (sym kept.as_many) within)

      at_v : (role : Role) × (slice_get v.roles r ≡ Some role)
      at_v = get_within v.roles r (subst (λ n. r < n) (sym (kept'.as_many ∙ ap length names)) within)

      start : Machine
      start = (fresh.begins r at_first.0 at_first.1).0

      started : slice_get first.roles r ≡ Some (record { state = Runs start; count = 0 })
      unfolding start
      started = at_first.1 ∙ ap (λ x. Some x) (fresh.begins r at_first.0 at_first.1).1

      final : Final (step p r) start (held w r) (events_of r w.events) at_w.0
      final =
          final_of w r start (held w r) at_w.0.count at_w.0.state
          (kept.alone r start at_w.0 started at_w.1 none_later (held w r) (held_all w r within)) (rests r at_w.0 at_w.1)

      alone : ComesAlone p v r later start (held w r) at_v.0.count at_v.0.state
      alone = kept'.alone r start at_v.0 started at_v.1 later (held w r) (held_begin w r within later v names sent_so)

      -- its events are a prefix of those at rest
      pub front : Prefix (events_of r v.events) (events_of r w.events)
      front =
          final_most (step p r) start (held w r) (events_of r w.events) (events_of r v.events) at_w.0 final
          (shows_of v r later start (held w r) at_v.0.count at_v.0.state alone)

    -- Turns keep it.
    events_same : (v : World) (kept' : Kept p first v) (s r : ℕ) → r ≢ s → events_of r (turn p v s).events ≡ events_of r v.events
    events_same v kept' s r apart = go (slice_get v.roles s)
      where
        by_step : (count : ℕ) (out : Stepped) → events_of r (stepped v s count out).events ≡ events_of r v.events
        by_step count (Went m q e) = others_more r s v.events (noted e) apart
        by_step count (Waits peer) = refl
        by_step count (Stops ending) = refl

        by_state : (count : ℕ) (state : State) → events_of r (turn_in p v s count state).events ≡ events_of r v.events
        by_state count (Runs m) = by_step count (step p s m v.messages)
        by_state count (Over ending) = refl

        go : (o : Option Role) → events_of r (turn_at p v s o).events ≡ events_of r v.events
        go None = refl
        go (Some role) = by_state role.count role.state

    long : length w.roles ≡ length w.messages.roles
    long = kept.as_many

    turn_front : (v : World) → Kept p first v → EventsBegin v w → (s : ℕ) → EventsBegin (turn p v s) w
    turn_front v kept' h s r lt = go (eqb_tells r s)
      where
        same : (from : ℕ) → from ≢ s → from < length w.roles → Prefix (events_of from (turn p v s).events) (events_of from w.events)
        same from apart ft = subst (λ es. Prefix es (events_of from w.events)) (sym (events_same v kept' s from apart)) (h from ft)

        go : ((r == s) ≡ true) × (r ≡ s) ⊎ ((r == s) ≡ false) × (r ≢ s) → Prefix (events_of r (turn p v s).events) (events_of r w.events)
        go (inl is) =
            front (turn p v s) (turn_kept p first fresh v kept' s) r (subst (λ n. r < n) kept.as_many lt)
            (λ from ft apart. same from (λ e. apart (e ∙ sym is.1)) (subst (λ n. from < n) (sym kept.as_many) ft))
        go (inr is) = same r is.1 lt

    turns_front : (v : World) → Kept p first v → EventsBegin v w → (order : List ℕ) → EventsBegin (turns p v order) w
    turns_front v kept' h [] = h
    turns_front v kept' h (s ∷ order) = turns_front (turn p v s) (turn_kept p first fresh v kept' s) (turn_front v kept' h s) order

    pub begins : (order : List ℕ) → EventsBegin (turns p first order) w
    begins order = turns_front first (kept_first p first fresh)
        (λ r lt. record { later = events_of r w.events; is = ap (λ es. events_of r es ++ events_of r w.events) (sym fresh.unseen) }) order

    -- Two worlds at rest.
    module _ (v : World) (kept' : Kept p first v) (rests' : Rests p v) (same : (r : ℕ) → r < length w.roles →
        events_of r v.events ≡ events_of r w.events) where
      same_names : v.messages.roles ≡ w.messages.roles
      same_names = kept'.names ∙ sym kept.names

      same_role : (r : ℕ) → r < length w.messages.roles → slice_get v.roles r ≡ slice_get w.roles r
      same_role r within =
          let a = get_within first.roles r (subst (λ n. r < n) (ap length kept.names ∙ sym fresh.as_many) within) in
          let b = fresh.begins r a.0 a.1 in
          let started : slice_get first.roles r ≡ Some (record { state = Runs b.0; count = 0 }) = a.1 ∙ ap (λ x. Some x) b.1 in
          let x = get_within w.roles r (subst (λ n. r < n) (sym kept.as_many) within) in
          let y = get_within v.roles r (subst (λ n. r < n) (sym (kept'.as_many ∙ ap length same_names)) within) in
          let begin : Begin v r none_later (held w r) =
          held_begin w r within none_later v same_names
          (λ from lt apart. sym (same_sent p first v kept' w kept same from r lt) ∙ sym (append-nil (sent v from r))) in
          y.1
          ∙ ap (λ z. Some z) (final_same (step p r) b.0 (held w r) (events_of r v.events) (events_of r w.events) y.0 x.0
          (final_of v r b.0 (held w r) y.0.count y.0.state (kept'.alone r b.0 y.0 started y.1 none_later (held w r) begin)
          (rests' r y.0 y.1))
          (final_of w r b.0 (held w r) x.0.count x.0.state (kept.alone r b.0 x.0 started x.1 none_later (held w r) (held_all w r within))
          (rests r x.0 x.1)))
          ∙ sym x.1

      pub same_all : SameForAll v w
      same_all = record {
        events = same;
        roles = roles_same p first v kept' w kept same_role;
        messages = messages_same p first v kept' w kept same;
      }

    -- So all lists of turns after which the world rests come to the same.
    pub rest_same : (v : World) → Kept p first v → Rests p v → EventsBegin v w → EventsBegin w v → SameForAll v w
    rest_same v kept' rests' h g =
        same_all v kept' rests' (λ r lt. each_front (events_of r v.events) (events_of r w.events) (h r lt)
        (g r (subst (λ n. r < n) (kept.as_many ∙ ap length kept.names ∙ sym (kept'.as_many ∙ ap length kept'.names)) lt)))

pub order_is_free : Rattle.vm_world_law.specs.Laws.OrderIsFree
order_is_free p first fresh resting other rests =
    let kept = kept_by p first fresh resting in
    let kept' = kept_by p first fresh other in
    let h = begins p first fresh (turns p first resting) kept rests other in (
      h,
      λ rests'. rest_same p first fresh (turns p first resting) kept rests (turns p first other) kept' rests' h
          (begins p first fresh (turns p first other) kept' rests' resting),
    )

-- how roles stand is told by the roles and the messages
stands_alike : (p : Program) (v w : World) → v.messages ≡ w.messages → (r : ℕ) (roles : List Role) → stands_from p v r roles ≡ stands_from p
    w r roles
stands_alike p v w same r [] = refl
stands_alike p v w same r (role ∷ roles) =
    let rest : stands_from p v (suc r) roles ≡ stands_from p w (suc r) roles = stands_alike p v w same (suc r) roles in
    ap (λ (l : List Stand). stand_of p v r role.state ∷ l) rest
    ∙ ap (λ (s : Stand). s ∷ stands_from p w (suc r) roles) (by_state role.state)
  where
    by_state : (state : State) → stand_of p v r state ≡ stand_of p w r state
    by_state (Runs m) = ap (λ (q : Messages). stand_of p (record { roles = v.roles; messages = q; events = v.events }) r (Runs m)) same
    by_state (Over ending) = refl

pub orders_agree : OrdersAgree
orders_agree p first fresh order other limit bound v w a b rests rests' =
    let both = order_is_free p first fresh (first_turns other b.taken) (first_turns order a.taken) (subst (Rests p) b.is rests') in
    let same : SameForAll v w = subst (λ x. SameForAll x w) (sym a.is)
    (subst (λ x. SameForAll (turns p first (first_turns order a.taken)) x) (sym b.is)
    (both.1 (subst (Rests p) a.is rests))) in
    (same, stands_alike p v w same.messages 0 v.roles ∙ ap (stands_from p w 0) same.roles)
