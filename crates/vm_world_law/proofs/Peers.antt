-- Whoever waits, waits for a role of the run.
use Rattle.std.proofs.Common.{◌≡◌, ◌<◌, ℕ, List, [], ◌∷◌, length, position, Option, Some, None, slice_get, refl, sym, ap, ◌∙◌, subst}
use Rattle.std.specs.Str.{bytes_eq}
use Rattle.mg_text.specs.Call.{Name}
use Rattle.mg_text.specs.declared.event.Sent.{Sent}
use Rattle.vm_model.specs.Program.{Program}
use Rattle.vm_model.specs.Messages.{Messages, on_way}
use Rattle.vm_model.specs.Machine.{Machine, Stepped, Went, Waits, Stops}
use Rattle.vm_model.specs.Step.{step}
use Rattle.vm_world_law.specs.Doing.{Answer, Looks, Takes, Refuses, Doing, Goes, Ends, Sends, Receives, answers, receives, done, IsDoing}
use Rattle.vm_world_law.specs.World.{State, Runs, Over, Role, World, waits, waits_by, waits_in, waits_at}
use Rattle.vm_world_law.proofs.Lists.{some_is}
use Rattle.vm_world_law.proofs.Ways.{other_is, named_within}
use Rattle.vm_world_law.proofs.Doing.{does_one}

waits_same : (a b : ℕ) → ◌≡◌ {A = Stepped} (Waits a) (Waits b) → a ≡ b
waits_same a b h = cc

module _ (q : Messages) (me peer : ℕ) where
  by_answer : (from : ℕ) (name : Name) (message : Sent) (more : List Sent) (answer : Answer) → answers q me from name message more answer ≡
      Waits peer → ⊥
  by_answer from name message more (Looks m) h = cc
  by_answer from name message more (Takes m) h = cc
  by_answer from name message more Refuses h = cc

  by_list : (from : ℕ) (name : Name) (answer : Sent → Answer) (list : List Sent) → receives q me from name answer list ≡ Waits peer →
      from ≡ peer
  by_list from name answer [] h = waits_same from peer h
  by_list from name answer (message ∷ more) h = absurd (by_answer from name message more (answer message) h)

  within_doing : (doing : Doing) → IsDoing q.roles me doing → done q me doing ≡ Waits peer → peer < length q.roles
  within_doing (Goes m event) right h = absurd (cc h)
  within_doing (Ends ending) right h = absurd (cc h)
  within_doing (Sends m to name message) right h = absurd (cc h)
  within_doing (Receives from name answer) right h =
      let other = other_is me (position (bytes_eq name) q.roles) from right in
      subst (λ k. k < length q.roles) (by_list from name answer (on_way q from me) h) (named_within q.roles name from other.is)

module _ (p : Program) (w : World) (r peer : ℕ) where
  by_step : (m : Machine) (out : Stepped) → step p r m w.messages ≡ out → waits_by out ≡ Some peer → peer < length w.messages.roles
  by_step m (Went n q e) at h = absurd (cc h)
  by_step m (Waits k) at h =
      let one = does_one w.messages.roles r p m in
      within_doing w.messages r peer one.doing one.right (sym (one.is w.messages refl) ∙ at ∙ ap Waits (some_is h))
  by_step m (Stops ending) at h = absurd (cc h)

  by_role : (o : Option Role) → waits_at p w r o ≡ Some peer → peer < length w.messages.roles
  by_role None h = absurd (cc h)
  by_role (Some role) h = by_state role.state h
    where
      by_state : (state : State) → waits_in p w r state ≡ Some peer → peer < length w.messages.roles
      by_state (Runs m) h = by_step m (step p r m w.messages) refl h
      by_state (Over ending) h = absurd (cc h)

  pub waits_within : waits p w r ≡ Some peer → peer < length w.messages.roles
  waits_within h = by_role (slice_get w.roles r) h
