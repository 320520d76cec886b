-- Each role of a world does what is meant.
use Rattle.std.proofs.Common.{◌≡◌, ◌<◌, ℕ, suc, List, [], length, Option, Some, None, slice_get, refl, sym, ap, ◌∙◌, subst, append-nil}
use Rattle.mg_text.specs.Call.{Name}
use Rattle.mg_text.specs.declared.event.Event.{Event}
use Rattle.mg_text.specs.declared.event.Ending.{Ending}
use Rattle.mg_text.specs.declared.event.Ending.TheVariants as endings
use Rattle.jv_values.specs.Values.{Finish, Wait, Ended, Inputs}
use Rattle.jv_values.specs.Alike.{Prefix}
use Rattle.vm_model.specs.Program.{Program}
use Rattle.vm_model.specs.Messages.{Messages, role_named, or_nothing}
use Rattle.vm_model.specs.Machine.{Machine, Stepped, Went, Waits, Stops}
use Rattle.vm_model.specs.Step.{step}
use Rattle.vm_world_law.specs.World.{State, Runs, Over, Role, World, turns, events_of, waits as waits_for, waits_at, waits_in, waits_by}
use Rattle.vm_world_law.specs.Turns.{waiting_for, stand_of}
use Rattle.vm_world_law.specs.Laws.{ComesAlone, Longer}
use Rattle.vm_world_law.proofs.Lists.{some_is, got_within, stands_at}
use Rattle.vm_world_law.proofs.Moves.{GoesAlike, step_alike}
use Rattle.vm_world_law.proofs.Alone.{Kept, kept_by}
use Rattle.vm_world_law.proofs.Order.{held, held_all, none_later}
use Rattle.vm_world_law.specs.Meant.{finish_of, Means, RunsAsMeant}
use Rattle.vm_world_law.specs.Worlds.{inputs_of, DoesAsMeant, Shows, IsMeant, WorldsAreMeant}
use Rattle.vm_world_law.proofs.Inputs.{held_holds}

module _ (p : Program) (first : World) (w : World) (kept : Kept p first w) (r : ℕ) (start : Machine) (role : Role)
    (begins : slice_get first.roles r ≡ Some (record { state = Runs start; count = 0 })) (stands : slice_get w.roles r ≡ Some role)
    (meant : Inputs → ℕ → Ended) (law : DoesAsMeant p r start meant) where
  within : r < length w.messages.roles
  within = subst (λ n. r < n) kept.as_many (got_within w.roles r role stands)

  runs : RunsAsMeant (step p r) start (held w r) (meant (inputs_of w r))
  runs = law (inputs_of w r) (held w r) (held_holds w r kept.distinct within)

  alone : ComesAlone p w r none_later start (held w r) role.count role.state
  alone = kept.alone r start role begins stands none_later (held w r) (held_all w r within)

  is_ended : (ending : Ending) → role.state ≡ Over ending →
      (finish : Finish) × (finish_of ending ≡ Some finish) × Means (meant (inputs_of w r)) (suc role.count) (events_of r w.events) finish
  is_ended ending is =
      runs.ended role.count (events_of r w.events) ending
      (subst (λ s. ComesAlone p w r none_later start (held w r) role.count s) is alone)

  is_waiting : (from : ℕ) → waits_for p w r ≡ Some from →
      (peer : Name) × (slice_get w.messages.roles from ≡ Some peer) × Means (meant (inputs_of w r)) (suc role.count) (events_of r w.events)
      (Wait peer)
  is_waiting from is = by_state role.state alone (sym (ap (waits_at p w r) stands) ∙ is)
    where
      by_step : (m : Machine) (out : Stepped) → step p r m w.messages ≡ out → waits_by out ≡ Some from → step p r m w.messages ≡ Waits from
      by_step m (Went n q e) at h = absurd (cc h)
      by_step m (Waits peer) at h = at ∙ ap Waits (some_is h)
      by_step m (Stops ending) at h = absurd (cc h)

      named : (a : Messages) (peer : Name) → a.roles ≡ w.messages.roles → role_named a peer ≡ Some from →
          slice_get w.messages.roles from ≡ Some peer
      named a peer roles h = subst (λ l. slice_get l from ≡ Some peer) roles (stands_at a.roles peer from h)

      by_state : (state : State) → ComesAlone p w r none_later start (held w r) role.count state → waits_in p w r state ≡ Some from →
          (peer : Name) × (slice_get w.messages.roles from ≡ Some peer) × Means (meant (inputs_of w r)) (suc role.count)
          (events_of r w.events) (Wait peer)
      by_state (Runs m) h at =
          let waits : step p r m w.messages ≡ Waits from = by_step m (step p r m w.messages) refl at in
          let longer : Longer r none_later w.messages h.messages = record { roles = h.left.roles; lists = h.left.lists } in
          let alike : GoesAlike r none_later (Waits from) (step p r m h.messages) =
          subst (λ x. GoesAlike r none_later x (step p r m h.messages)) waits (step_alike r none_later p m w.messages h.messages longer) in
          let means = runs.waiting role.count (events_of r w.events) m h.messages from h.steps (alike refl) in
          (means.0, named h.messages means.0 h.left.roles means.1, means.2)
      by_state (Over ending) h at = absurd (cc at)

  is_going : Prefix (events_of r w.events) (meant (inputs_of w r) (suc role.count)).events
  is_going = go role.state alone
    where
      go : (state : State) → ComesAlone p w r none_later start (held w r) role.count state →
          Prefix (events_of r w.events) (meant (inputs_of w r) (suc role.count)).events
      go (Runs m) h = runs.going role.count (events_of r w.events) m h.messages h.steps
      go (Over ending) h =
          let means = runs.ended role.count (events_of r w.events) ending h in
          record { later = []; is = ap (λ x. x.events) means.2 ∙ sym (append-nil (events_of r w.events)) }

  shows : Shows (meant (inputs_of w r)) role.count (events_of r w.events) (stand_of p w r role.state)
  shows = by_state role.state refl
    where
      by_wait : (o : Option ℕ) → waits_for p w r ≡ o → Shows (meant (inputs_of w r)) role.count (events_of r w.events) (waiting_for w o)
      by_wait None at = is_going
      by_wait (Some from) at =
          let (peer, named, means) = is_waiting from at in
          subst (λ n. Means (meant (inputs_of w r)) (suc role.count) (events_of r w.events) (Wait n)) (sym (ap or_nothing named)) means

      by_state : (state : State) → role.state ≡ state → Shows (meant (inputs_of w r)) role.count (events_of r w.events)
          (stand_of p w r state)
      by_state (Runs m) is = by_wait (waits_in p w r (Runs m)) (ap (waits_at p w r) stands ∙ ap (waits_in p w r) is)
      by_state (Over ending) is = is_ended ending is

  pub is_meant : IsMeant p meant w r role
  is_meant = record {
    shows = shows;
    well = λ kind is. absurd (let means = is_ended (endings.Bad kind) is in let none : None ≡ Some means.0 = means.1 in cc);
  }

pub worlds_are_meant : WorldsAreMeant
worlds_are_meant p first fresh order r start role begins stands meant law =
    is_meant p first (turns p first order) (kept_by p first fresh order) r start role begins stands meant law
