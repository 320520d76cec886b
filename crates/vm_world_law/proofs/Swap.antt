-- Turns of two roles come to the same whichever is first, but where one waits for what the other sends.
use Rattle.std.proofs.Common.{◌≡◌, ◌≢◌, ◌⊎◌, inl, inr, ℕ, suc, ◌<◌, true, false, List, [], ◌∷◌, ◌++◌, length, Option, Some, None, refl, sym}
use Rattle.std.proofs.Common.{ap, ◌∙◌, subst, append-nil}
use Rattle.std.specs.Prelude.{◌==◌, slice_get, slice_set}
use Rattle.std.proofs.lemmas.Bool.Decides.{eqb_tells}
use Rattle.mg_text.specs.declared.event.Sent.{Sent}
use Rattle.vm_model.specs.Program.{Program}
use Rattle.vm_model.specs.Messages.{on_way}
use Rattle.vm_model.specs.Machine.{Stepped, Went, Waits, Stops, noted}
use Rattle.vm_model.specs.Step.{step}
use Rattle.vm_world_law.specs.World.{State, Runs, Over, Role, World, turn, turns, turn_at, turn_in, stepped, IsFresh, events_of, waits}
use Rattle.vm_world_law.specs.World.{waits_at, waits_in, waits_by}
use Rattle.vm_world_law.specs.Laws.{Longer, SendsNone, SameForAll, TurnsSwap}
use Rattle.vm_world_law.proofs.Lists.{set_here, set_there, got_within}
use Rattle.vm_world_law.proofs.Moves.{MovesTo, step_moves, GoesAlike, step_alike}
use Rattle.vm_world_law.proofs.Events.{own_more, others_more}
use Rattle.vm_world_law.proofs.Delivering.{Grown, grows, moves_roles}
use Rattle.vm_world_law.proofs.Alone.{Kept, kept_by, turn_kept}
use Rattle.vm_world_law.proofs.Same.{messages_same, roles_same}

-- A turn of another role: this one stands as before, and its lists are longer at most.
pub record Beside (w v : World) (r : ℕ) : Type 0 where
  pub later : ℕ → List Sent
  pub stands : slice_get v.roles r ≡ slice_get w.roles r
  pub longer : Longer r later w.messages v.messages
  pub events : events_of r v.events ≡ events_of r w.events

-- what a turn of the role makes of it
pub record Alike (v w : World) (r : ℕ) : Type 0 where
  pub stands : slice_get v.roles r ≡ slice_get w.roles r
  pub events : events_of r v.events ≡ events_of r w.events

module _ (p : Program) (first : World) where
  module _ (w : World) (kept : Kept p first w) (s r : ℕ) (apart : r ≢ s) (within : r < length w.messages.roles) where
    nothing_came : Longer r (λ from. []) w.messages w.messages
    nothing_came = record { roles = refl; lists = λ from lt other. sym (append-nil (on_way w.messages from r)) }

    by_step : (count : ℕ) (out : Stepped) → s < length w.messages.roles → MovesTo s w.messages out → Beside w (stepped w s count out) r
    by_step count (Went m q e) lt moves =
        let roles : List Role = slice_set w.roles s (record { state = Runs m; count = suc count }) in
        let grown : (from : ℕ) → Grown w (stepped w s count (Went m q e)) from r = λ from. grows w s
        (slice_set w.roles s (record { state = Runs m; count = suc count })) kept.distinct kept.square lt q e moves from r within apart in
        record {
          later = λ from. (grown from).extra;
          stands = set_there w.roles s r (record { state = Runs m; count = suc count }) apart;
          longer = record {
            roles = moves_roles w s w.roles kept.distinct kept.square lt q e moves;
            lists = λ from ft other. (grown from).way_is;
          };
          events = others_more r s w.events (noted e) apart;
        }
    by_step count (Waits peer) lt moves = record { later = λ from. []; stands = refl; longer = nothing_came; events = refl }
    by_step count (Stops ending) lt moves = record {
      later = λ from. [];
      stands = set_there w.roles s r (record { state = Over ending; count = suc count }) apart;
      longer = nothing_came;
      events = refl;
    }

    by_state : (count : ℕ) (state : State) → s < length w.messages.roles → Beside w (turn_in p w s count state) r
    by_state count (Runs m) lt = by_step count (step p s m w.messages) lt (step_moves s w.messages p m)
    by_state count (Over ending) lt = record { later = λ from. []; stands = refl; longer = nothing_came; events = refl }

    pub beside : Beside w (turn p w s) r
    beside = go (slice_get w.roles s) refl
      where
        go : (o : Option Role) → slice_get w.roles s ≡ o → Beside w (turn_at p w s o) r
        go None at = record { later = λ from. []; stands = refl; longer = nothing_came; events = refl }
        go (Some role) at = by_state role.count role.state (subst (λ n. s < n) kept.as_many (got_within w.roles s role at))

  -- The turn of a role that doesn't wait is the same in worlds that are the same to it.
  module _ (w v : World) (r : ℕ) (same : Beside w v r) where
    turned_step : (count : ℕ) (out : Stepped) (out' : Stepped) → waits_by out ≡ None → GoesAlike r same.later out out' →
        r < length w.roles → r < length v.roles → Alike (stepped v r count out') (stepped w r count out) r
    turned_step count (Went m q e) out' free alike lw lv =
        subst (λ o. Alike (stepped v r count o) (stepped w r count (Went m q e)) r) (sym alike.1)
        (record {
          stands = set_here v.roles r (record { state = Runs m; count = suc count }) lv
              ∙ sym (set_here w.roles r (record { state = Runs m; count = suc count }) lw);
          events = own_more r v.events (noted e) ∙ ap (λ es. es ++ noted e) same.events ∙ sym (own_more r w.events (noted e));
        })
    turned_step count (Waits peer) out' free alike lw lv = absurd (cc free)
    turned_step count (Stops ending) out' free alike lw lv =
        subst (λ o. Alike (stepped v r count o) (stepped w r count (Stops ending)) r) (sym alike)
        (record {
          stands = set_here v.roles r (record { state = Over ending; count = suc count }) lv
              ∙ sym (set_here w.roles r (record { state = Over ending; count = suc count }) lw);
          events = same.events;
        })

    turned_state : (count : ℕ) (state : State) → waits_in p w r state ≡ None → r < length w.roles → r < length v.roles →
        slice_get v.roles r ≡ slice_get w.roles r → Alike (turn_in p v r count state) (turn_in p w r count state) r
    turned_state count (Runs m) free lw lv stands =
        turned_step count (step p r m w.messages) (step p r m v.messages) free (step_alike r same.later p m w.messages v.messages
        same.longer) lw lv
    turned_state count (Over ending) free lw lv stands = record { stands = stands; events = same.events }

    turned : waits p w r ≡ None → Alike (turn p v r) (turn p w r) r
    turned free =
        subst (λ o. Alike (turn_at p v r o) (turn p w r) r) (sym same.stands) (go (slice_get w.roles r) refl free)
      where
        go : (o : Option Role) → slice_get w.roles r ≡ o → waits_at p w r o ≡ None → Alike (turn_at p v r o) (turn_at p w r o) r
        go None at free = record { stands = same.stands; events = same.events }
        go (Some role) at free =
            turned_state role.count role.state free (got_within w.roles r role at) (got_within v.roles r role (same.stands ∙ at))
            same.stands

  -- a turn of a role that waits changes nothing
  waiting_turn : (w : World) (r peer : ℕ) → waits p w r ≡ Some peer → turn p w r ≡ w
  waiting_turn w r peer is = go (slice_get w.roles r) is
    where
      by_out : (count : ℕ) (out : Stepped) → waits_by out ≡ Some peer → stepped w r count out ≡ w
      by_out count (Went m q e) is = absurd (cc is)
      by_out count (Waits other) is = refl
      by_out count (Stops ending) is = absurd (cc is)

      by_role : (count : ℕ) (state : State) → waits_in p w r state ≡ Some peer → turn_in p w r count state ≡ w
      by_role count (Runs m) is = by_out count (step p r m w.messages) is
      by_role count (Over ending) is = absurd (cc is)

      go : (o : Option Role) → waits_at p w r o ≡ Some peer → turn_at p w r o ≡ w
      go None is = absurd (cc is)
      go (Some role) is = by_role role.count role.state is

  -- behind a turn of another role, the turn of a role makes the same of it
  after_other : (w : World) → Kept p first w → (s r : ℕ) → r ≢ s → r < length w.messages.roles → SendsNone p w s r →
      Alike (turn p (turn p w s) r) (turn p w r) r
  after_other w kept s r apart within none = go (waits p w r) refl
    where
      side : Beside w (turn p w s) r
      side = beside w kept s r apart within

      go : (o : Option ℕ) → waits p w r ≡ o → Alike (turn p (turn p w s) r) (turn p w r) r
      go None is = turned w (turn p w s) r side is
      go (Some peer) is =
          let still : turn p w r ≡ w = waiting_turn w r peer is in
          let still' : turn p (turn p w s) r ≡ turn p w s = waiting_turn (turn p w s) r peer (none peer is) in
          subst (λ x. Alike x (turn p w r) r) (sym still') (subst (λ x. Alike (turn p w s) x r) (sym still)
          (record { stands = side.stands; events = side.events }))

  module _ (fresh : IsFresh first) (w : World) (kept : Kept p first w) (a b : ℕ) (apart : a ≢ b) (none : SendsNone p w a b)
      (none' : SendsNone p w b a) where
    ab : World
    ab = turn p (turn p w a) b

    ba : World
    ba = turn p (turn p w b) a

    kept_a : Kept p first (turn p w a)
    kept_a = turn_kept p first fresh w kept a

    kept_b : Kept p first (turn p w b)
    kept_b = turn_kept p first fresh w kept b

    in_a : (r : ℕ) → r < length w.messages.roles → r < length (turn p w a).messages.roles
    in_a r lt = subst (λ l. r < length l) (kept.names ∙ sym kept_a.names) lt

    in_b : (r : ℕ) → r < length w.messages.roles → r < length (turn p w b).messages.roles
    in_b r lt = subst (λ l. r < length l) (kept.names ∙ sym kept_b.names) lt

    each : (r : ℕ) → r < length w.messages.roles → Alike (turn p (turn p w a) b) (turn p (turn p w b) a) r
    each r lt = go (eqb_tells r a) (eqb_tells r b)
      where
        go : ((r == a) ≡ true) × (r ≡ a) ⊎ ((r == a) ≡ false) × (r ≢ a) → ((r == b) ≡ true) × (r ≡ b) ⊎ ((r == b) ≡ false) × (r ≢ b) →
            Alike (turn p (turn p w a) b) (turn p (turn p w b) a) r
        go (inl is) other =
            subst (λ k. Alike (turn p (turn p w a) b) (turn p (turn p w b) a) k) (sym is.1)
            (let lt' : a < length w.messages.roles = subst (λ k. k < length w.messages.roles) is.1 lt in
            let x = beside (turn p w a) kept_a b a apart (in_a a lt') in
            let y = after_other w kept b a apart lt' none' in
            record { stands = x.stands ∙ sym y.stands; events = x.events ∙ sym y.events })
        go (inr n) (inl is) =
            subst (λ k. Alike (turn p (turn p w a) b) (turn p (turn p w b) a) k) (sym is.1)
            (let lt' : b < length w.messages.roles = subst (λ k. k < length w.messages.roles) is.1 lt in
            let x = after_other w kept a b (λ e. apart (sym e)) lt' none in
            let y = beside (turn p w b) kept_b a b (λ e. apart (sym e)) (in_b b lt') in
            record { stands = x.stands ∙ sym y.stands; events = x.events ∙ sym y.events })
        go (inr n) (inr m) =
            let x = beside w kept a r n.1 lt in
            let x' = beside (turn p w a) kept_a b r m.1 (in_a r lt) in
            let y = beside w kept b r m.1 lt in
            let y' = beside (turn p w b) kept_b a r n.1 (in_b r lt) in
            record {
              stands = x'.stands ∙ x.stands ∙ sym (y'.stands ∙ y.stands);
              events = x'.events ∙ x.events ∙ sym (y'.events ∙ y.events);
            }

    pub swapped : SameForAll (turn p (turn p w a) b) (turn p (turn p w b) a)
    swapped =
        let kept_ab = turn_kept p first fresh (turn p w a) kept_a b in
        let kept_ba = turn_kept p first fresh (turn p w b) kept_b a in
        let from_roles : (r : ℕ) → r < length (turn p (turn p w b) a).roles → r < length w.messages.roles =
        (λ r lt. subst (λ n. r < n) (kept_ba.as_many ∙ ap length (kept_ba.names ∙ sym kept.names)) lt) in
        let from_names : (r : ℕ) → r < length (turn p (turn p w b) a).messages.roles → r < length w.messages.roles =
        (λ r lt. subst (λ l. r < length l) (kept_ba.names ∙ sym kept.names) lt) in
        let same : (r : ℕ) → r < length (turn p (turn p w b) a).roles →
        events_of r (turn p (turn p w a) b).events ≡ events_of r (turn p (turn p w b) a).events =
        (λ r lt. (each r (from_roles r lt)).events) in
        record {
          events = same;
          roles = roles_same p first (turn p (turn p w a) b) kept_ab (turn p (turn p w b) a) kept_ba
              (λ r lt. (each r (from_names r lt)).stands);
          messages = messages_same p first (turn p (turn p w a) b) kept_ab (turn p (turn p w b) a) kept_ba same;
        }

-- turns behind turns
pub turns-append : (p : Program) (w : World) (xs ys : List ℕ) → turns p w (xs ++ ys) ≡ turns p (turns p w xs) ys
turns-append p w [] ys = refl
turns-append p w (x ∷ xs) ys = turns-append p (turn p w x) xs ys

pub turns_swap : TurnsSwap
turns_swap p first fresh order a b apart none none' =
    subst (λ v. SameForAll v (turns p first (order ++ b ∷ a ∷ []))) (sym (turns-append p first order (a ∷ b ∷ [])))
    (subst (λ v. SameForAll (turns p (turns p first order) (a ∷ b ∷ [])) v) (sym (turns-append p first order (b ∷ a ∷ [])))
    (swapped p first fresh (turns p first order) (kept_by p first fresh order) a b apart none none'))
