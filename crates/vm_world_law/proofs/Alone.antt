-- Whatever turns are taken, what was sent arrives in its order, and a role does what its machine does alone.
use Rattle.std.proofs.Common.{◌≡◌, ◌≢◌, ◌⊎◌, inl, inr, ℕ, suc, ◌<◌, true, false, List, [], ◌∷◌, ◌++◌, length, map, Option, Some, None, refl}
use Rattle.std.proofs.Common.{sym, ap, ◌∙◌, subst, append_assoc, append-nil, arith}
use Rattle.std.specs.Prelude.{◌==◌, slice_get, slice_set}
use Rattle.std.specs.List.{IsDistinct}
use Rattle.std.specs.Str.{bytes_eq}
use Rattle.std.proofs.lemmas.Bool.Decides.{eqb_tells}
use Rattle.mg_text.specs.declared.event.Event.{Event}
use Rattle.mg_text.specs.declared.event.Sent.{Sent}
use Rattle.mg_text.specs.declared.event.Ending.{Ending}
use Rattle.vm_model.specs.Program.{Program}
use Rattle.vm_model.specs.Messages.{Messages, on_way}
use Rattle.vm_model.specs.Machine.{Machine, Stepped, Went, Waits, Stops, Steps, none, more, noted}
use Rattle.vm_model.specs.Runs as whole
use Rattle.vm_model.specs.Step.{step}
use Rattle.vm_world_law.specs.World.{State, Runs, Over, Role, World, of_role, turn, turns, turn_at, turn_in, stepped, IsFresh, events_of}
use Rattle.vm_world_law.specs.World.{sent, took}
use Rattle.vm_world_law.specs.Laws.{Delivers, Begin, Arrives, ComesAlone, Longer}
use Rattle.vm_world_law.proofs.Lists.{some_is, set_here, set_there, set_long, got_within}
use Rattle.vm_world_law.proofs.Ways.{IsSquare, none_square, none_on_way}
use Rattle.vm_world_law.proofs.Moves.{Moves, MovesTo, step_moves, GoesAlike, step_alike}
use Rattle.vm_world_law.proofs.Events.{own_more, others_more}
use Rattle.vm_world_law.proofs.Delivering.{behind, Grown, sent_by_others, delivers, grows, moves_square, moves_roles}

-- Runs of one machine: one step more.
module _ (next : Machine → Messages → Stepped) where
  pub steps_more : (m : Machine) (q : Messages) (k : ℕ) (es : List Event) (n : Machine) (r : Messages) (n' : Machine) (r' : Messages)
      (e : Option Event)
      → Steps next m q k es n r → next n r ≡ Went n' r' e → Steps next m q (suc k) (es ++ noted e) n' r'
  steps_more m q _ _ _ _ n' r' e none h = subst (λ xs. Steps next m q 1 xs n' r') (append-nil (noted e)) (more h none)
  steps_more m q _ _ n r n' r' e (more {m' = m'} {q' = q'} {e = a} {k = k} {events = events} first rest) h =
      subst (λ xs. Steps next m q (suc (suc k)) xs n' r') (sym (append_assoc (noted a) events (noted e)))
      (more first (steps_more m' q' k events n r n' r' e rest h))

-- What every world meets that turns lead to.
pub record Kept (p : Program) (first w : World) : Type 0 where
  pub names : w.messages.roles ≡ first.messages.roles
  pub distinct : IsDistinct bytes_eq w.messages.roles
  pub as_many : length w.roles ≡ length w.messages.roles
  pub square : IsSquare w.messages
  pub delivers : Delivers w
  pub alone : (r : ℕ) (start : Machine) (role : Role) → slice_get first.roles r ≡ Some (record { state = Runs start; count = 0 }) →
      slice_get w.roles r ≡ Some role → (later : ℕ → List Sent) (q : Messages) → Begin w r later q →
      ComesAlone p w r later start q role.count role.state

module _ (p : Program) (first : World) (fresh : IsFresh first) where
  nothing_seen : (r : ℕ) → events_of r first.events ≡ []
  nothing_seen r = ap (events_of r) fresh.unseen

  nothing_sent : (from to : ℕ) → sent first from to ≡ []
  nothing_sent from to = ap (λ es. Rattle.vm_world_law.specs.World.sent_to (Rattle.vm_world_law.specs.World.name_of first to) es)
      (nothing_seen from)

  nothing_taken : (to from : ℕ) → took first to from ≡ []
  nothing_taken to from = ap (λ es. Rattle.vm_world_law.specs.World.taken_from (Rattle.vm_world_law.specs.World.name_of first from) es)
      (nothing_seen to)

  nothing_there : (from to : ℕ) → on_way first.messages from to ≡ []
  nothing_there from to = ap (λ q. on_way q from to) fresh.no_message ∙ none_on_way first.messages.roles from to

  pub kept_first : Kept p first first
  kept_first = record {
    names = refl;
    distinct = fresh.distinct;
    as_many = fresh.as_many;
    square = subst IsSquare (sym fresh.no_message) (none_square first.messages.roles);
    delivers = λ from to lf lt. nothing_sent from to ∙ sym (ap (λ l. l ++ on_way first.messages from to) (nothing_taken to from) ∙
        nothing_there from to);
    alone = λ r start role at now later q begin.
        let same : record { state = Runs start; count = 0 } ≡ role = some_is (sym at ∙ now) in
        subst (λ x. ComesAlone p first r later start q x.count x.state) same (begins r start later q begin);
  }
    where
      begins : (r : ℕ) (start : Machine) (later : ℕ → List Sent) (q : Messages) → Begin first r later q →
          Arrives p first r later start q 0 start
      begins r start later q begin = record {
        messages = q;
        steps = subst (λ es. Steps (step p r) start q 0 es start q) (sym (nothing_seen r)) none;
        left = record {
          roles = begin.roles;
          lists = λ from lt apart. begin.lists from lt apart
              ∙ ap (λ l. l ++ later from) (nothing_sent from r ∙ sym (nothing_there from r));
        };
      }

  module _ (w : World) (kept : Kept p first w) (s : ℕ) (role : Role) (at : slice_get w.roles s ≡ Some role) where
    -- s is one of the roles
    in_roles : s < length w.messages.roles
    in_roles = subst (λ n. s < n) kept.as_many (got_within w.roles s role at)

    -- The step goes on.
    module _ (m n : Machine) (q : Messages) (e : Option Event) (running : role.state ≡ Runs m) (goes : step p s m w.messages ≡ Went n q e)
        (moves : Moves s w.messages e q) where
      now : Role
      now = record { state = Runs n; count = suc role.count }

      after : World
      after = behind w s (slice_set w.roles s (record { state = Runs n; count = suc role.count })) q e

      names_same : q.roles ≡ w.messages.roles
      names_same = moves_roles w s w.roles kept.distinct kept.square in_roles q e moves

      -- what another role does is as before, over lists where less came
      others_alone : (r : ℕ) (start : Machine) (other : Role) → r ≢ s →
          slice_get first.roles r ≡ Some (record { state = Runs start; count = 0 }) →
          slice_get w.roles r ≡ Some other → (later : ℕ → List Sent) (begun : Messages) →
          Begin (behind w s (slice_set w.roles s (record { state = Runs n; count = suc role.count })) q e) r later begun →
          ComesAlone p (behind w s (slice_set w.roles s (record { state = Runs n; count = suc role.count })) q e) r later start begun
          other.count other.state
      others_alone r start other apart begins stands later begun begin =
          turn_to other.state (kept.alone r start other begins stands sooner begun begin')
        where
          roles : List Role
          roles = slice_set w.roles s (record { state = Runs n; count = suc role.count })

          lt : r < length w.messages.roles
          lt = subst (λ k. r < k) kept.as_many (got_within w.roles r other stands)

          grown : (from : ℕ) → Grown w (behind w s (slice_set w.roles s (record { state = Runs n; count = suc role.count })) q e) from r
          grown from = grows w s (slice_set w.roles s (record { state = Runs n; count = suc role.count })) kept.distinct kept.square
              in_roles q e moves from r lt apart

          sooner : ℕ → List Sent
          sooner from = (grown from).extra ++ later from

          begin' : Begin w r sooner begun
          begin' = record {
            roles = begin.roles ∙ names_same;
            lists = λ from in_names far. begin.lists from (subst (λ names. from < length names) (sym names_same) in_names) far
                ∙ ap (λ l. l ++ later from) (grown from).sent_is
                ∙ append_assoc (sent w from r) (grown from).extra (later from);
          }

          same_events : events_of r (w.events ++ map (of_role s) (noted e)) ≡ events_of r w.events
          same_events = others_more r s w.events (noted e) apart

          turn_to : (state : State) → ComesAlone p w r sooner start begun other.count state →
              ComesAlone p (behind w s (slice_set w.roles s (record { state = Runs n; count = suc role.count })) q e) r later start begun
              other.count state
          turn_to (Runs x) h = record {
            messages = h.messages;
            steps = subst (λ es. Steps (step p r) start begun other.count es x h.messages) (sym same_events) h.steps;
            left = record {
              roles = h.left.roles ∙ sym names_same;
              lists = λ from in_names far. h.left.lists from (subst (λ names. from < length names) names_same in_names) far
                  ∙ sym (append_assoc (on_way w.messages from r) (grown from).extra (later from))
                  ∙ ap (λ l. l ++ later from) (sym (grown from).way_is);
            };
          }
          turn_to (Over ending) h = subst (λ es. whole.Runs (step p r) start begun other.count es ending) (sym same_events) h

      -- and the role itself takes one step more
      own_alone : (start : Machine) → slice_get first.roles s ≡ Some (record { state = Runs start; count = 0 }) →
          (later : ℕ → List Sent) (begun : Messages) →
          Begin (behind w s (slice_set w.roles s (record { state = Runs n; count = suc role.count })) q e) s later begun →
          Arrives p (behind w s (slice_set w.roles s (record { state = Runs n; count = suc role.count })) q e) s later start begun
          (suc role.count) n
      own_alone start begins later begun begin =
          let begin' : Begin w s later begun = record {
            roles = begin.roles ∙ names_same;
            lists = λ from in_names far. begin.lists from (subst (λ names. from < length names) (sym names_same) in_names) far ∙
                ap (λ l. l ++ later from)
                (sent_by_others w s (slice_set w.roles s (record { state = Runs n; count = suc role.count })) q e from s names_same far);
          } in
          let before : Arrives p w s later start begun role.count m =
          subst (λ x. ComesAlone p w s later start begun role.count x) running (kept.alone s start role begins at later begun begin') in
          let longer : Longer s later w.messages before.messages = record { roles = before.left.roles; lists = before.left.lists } in
          let alike : GoesAlike s later (Went n q e) (step p s m before.messages) =
          subst (λ x. GoesAlike s later x (step p s m before.messages)) goes (step_alike s later p m w.messages before.messages longer) in
          record {
            messages = alike.0;
            steps = subst (λ es. Steps (step p s) start begun (suc role.count) es n alike.0) (sym (own_more s w.events (noted e)))
                (steps_more (step p s) start begun role.count (events_of s w.events) m before.messages n alike.0 e before.steps alike.1);
            left = record {
              roles = alike.2.roles;
              lists = λ from in_names far. alike.2.lists from in_names far;
            };
          }

      pub went_kept : Kept p first (behind w s (slice_set w.roles s (record { state = Runs n; count = suc role.count })) q e)
      went_kept = record {
        names = names_same ∙ kept.names;
        distinct = subst (IsDistinct bytes_eq) (sym names_same) kept.distinct;
        as_many = set_long w.roles s (record { state = Runs n; count = suc role.count }) ∙ kept.as_many ∙ ap length (sym names_same);
        square = moves_square w s w.roles kept.distinct kept.square in_roles q e moves;
        delivers = delivers w s (slice_set w.roles s (record { state = Runs n; count = suc role.count })) kept.distinct kept.square in_roles
            q e moves kept.delivers;
        alone = λ r start other begins stands later begun begin. go r start other begins stands later begun begin (eqb_tells r s);
      }
        where
          go : (r : ℕ) (start : Machine) (other : Role) → slice_get first.roles r ≡ Some (record { state = Runs start; count = 0 }) →
              slice_get (slice_set w.roles s (record { state = Runs n; count = suc role.count })) r ≡ Some other →
              (later : ℕ → List Sent) (begun : Messages) →
              Begin (behind w s (slice_set w.roles s (record { state = Runs n; count = suc role.count })) q e) r later begun →
              ((r == s) ≡ true) × (r ≡ s) ⊎ ((r == s) ≡ false) × (r ≢ s) →
              ComesAlone p (behind w s (slice_set w.roles s (record { state = Runs n; count = suc role.count })) q e) r later start begun
              other.count other.state
          go r start other begins stands later begun begin (inl is) =
              let here : Some (record { state = Runs n; count = suc role.count }) ≡ Some other =
              sym (set_here w.roles s (record { state = Runs n; count = suc role.count }) (got_within w.roles s role at))
              ∙ ap (λ k. slice_get (slice_set w.roles s (record { state = Runs n; count = suc role.count })) k) (sym is.1) ∙ stands in
              subst (λ x. ComesAlone p (behind w s (slice_set w.roles s (record { state = Runs n; count = suc role.count })) q e) r later
              start begun x.count x.state)
              (some_is here)
              (subst (λ k. ComesAlone p (behind w s (slice_set w.roles s (record { state = Runs n; count = suc role.count })) q e) k later
              start begun (suc role.count) (Runs n))
              (sym is.1)
              (own_alone start (ap (λ k. slice_get first.roles k) (sym is.1) ∙ begins) later begun
              (subst (λ k. Begin (behind w s (slice_set w.roles s (record { state = Runs n; count = suc role.count })) q e) k later begun)
              is.1 begin)))
          go r start other begins stands later begun begin (inr is) =
              others_alone r start other is.1 begins
              (sym (set_there w.roles s r (record { state = Runs n; count = suc role.count }) is.1) ∙ stands) later begun begin

    -- The step ends the role.
    module _ (m : Machine) (ending : Ending) (running : role.state ≡ Runs m) (stops : step p s m w.messages ≡ Stops ending) where
      abbrev stopped : World
      stopped = record w { roles = slice_set w.roles s (record { state = Over ending; count = suc role.count }) }

      same_world : (r : ℕ) (later : ℕ → List Sent) (begun : Messages) → Begin stopped r later begun → Begin w r later begun
      same_world r later begun begin = record { roles = begin.roles; lists = begin.lists }

      same_alone : (r : ℕ) (later : ℕ → List Sent) (start : Machine) (begun : Messages) (count : ℕ) (state : State) →
          ComesAlone p w r later start begun count state → ComesAlone p stopped r later start begun count state
      same_alone r later start begun count (Runs x) h =
          record { messages = h.messages; steps = h.steps; left = record { roles = h.left.roles; lists = h.left.lists } }
      same_alone r later start begun count (Over x) h = h

      own_stopped : (start : Machine) → slice_get first.roles s ≡ Some (record { state = Runs start; count = 0 }) →
          (later : ℕ → List Sent) (begun : Messages) → Begin w s later begun →
          whole.Runs (step p s) start begun (suc role.count) (events_of s w.events) ending
      own_stopped start begins later begun begin =
          let before : Arrives p w s later start begun role.count m =
          subst (λ x. ComesAlone p w s later start begun role.count x) running (kept.alone s start role begins at later begun begin) in
          let longer : Longer s later w.messages before.messages = record { roles = before.left.roles; lists = before.left.lists } in
          let alike : GoesAlike s later (Stops ending) (step p s m before.messages) =
          subst (λ x. GoesAlike s later x (step p s m before.messages)) stops (step_alike s later p m w.messages before.messages longer) in
          record {
            steps = role.count;
            last = m;
            messages = before.messages;
            leads = before.steps;
            stops = alike;
            counted = omega arith;
          }

      pub stopped_kept : Kept p first stopped
      stopped_kept = record {
        names = kept.names;
        distinct = kept.distinct;
        as_many = set_long w.roles s (record { state = Over ending; count = suc role.count }) ∙ kept.as_many;
        square = kept.square;
        delivers = kept.delivers;
        alone = λ r start other begins stands later begun begin. go r start other begins stands later begun begin (eqb_tells r s);
      }
        where
          go : (r : ℕ) (start : Machine) (other : Role) → slice_get first.roles r ≡ Some (record { state = Runs start; count = 0 }) →
              slice_get (slice_set w.roles s (record { state = Over ending; count = suc role.count })) r ≡ Some other →
              (later : ℕ → List Sent) (begun : Messages) → Begin stopped r later begun →
              ((r == s) ≡ true) × (r ≡ s) ⊎ ((r == s) ≡ false) × (r ≢ s) → ComesAlone p stopped r later start begun other.count other.state
          go r start other begins stands later begun begin (inl is) =
              let here : Some (record { state = Over ending; count = suc role.count }) ≡ Some other =
              sym (set_here w.roles s (record { state = Over ending; count = suc role.count }) (got_within w.roles s role at))
              ∙ ap (λ k. slice_get (slice_set w.roles s (record { state = Over ending; count = suc role.count })) k) (sym is.1) ∙ stands in
              subst (λ x. ComesAlone p stopped r later start begun x.count x.state) (some_is here)
              (subst (λ k. whole.Runs (step p k) start begun (suc role.count) (events_of k w.events) ending) (sym is.1)
              (own_stopped start (ap (λ k. slice_get first.roles k) (sym is.1) ∙ begins) later begun
              (subst (λ k. Begin w k later begun) is.1 (same_world r later begun begin))))
          go r start other begins stands later begun begin (inr is) =
              same_alone r later start begun other.count other.state
              (kept.alone r start other begins (sym (set_there w.roles s r (record { state = Over ending; count = suc role.count }) is.1) ∙
              stands) later begun
              (same_world r later begun begin))

    stepped_kept : (m : Machine) (out : Stepped) → role.state ≡ Runs m → step p s m w.messages ≡ out → MovesTo s w.messages out →
        Kept p first (stepped w s role.count out)
    stepped_kept m (Went n q e) running is moves = went_kept m n q e running is moves
    stepped_kept m (Waits peer) running is moves = kept
    stepped_kept m (Stops ending) running is moves = stopped_kept m ending running is

    pub in_kept : (state : State) → role.state ≡ state → Kept p first (turn_in p w s role.count state)
    in_kept (Runs m) is = stepped_kept m (step p s m w.messages) is refl (step_moves s w.messages p m)
    in_kept (Over ending) is = kept

  pub turn_kept : (w : World) → Kept p first w → (s : ℕ) → Kept p first (turn p w s)
  turn_kept w kept s = go (slice_get w.roles s) refl
    where
      go : (o : Option Role) → slice_get w.roles s ≡ o → Kept p first (turn_at p w s o)
      go None at = kept
      go (Some role) at = in_kept w kept s role at role.state refl

  turns_kept : (w : World) → Kept p first w → (order : List ℕ) → Kept p first (turns p w order)
  turns_kept w kept [] = kept
  turns_kept w kept (s ∷ order) = turns_kept (turn p w s) (turn_kept w kept s) order

  pub kept_by : (order : List ℕ) → Kept p first (turns p first order)
  kept_by order = turns_kept first kept_first order
