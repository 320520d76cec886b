-- What a turn of a role makes of the world.
use Rattle.std.proofs.Common.{Result, Ok, Err, OnErr, ◌≡◌, ℕ, zero, suc, ◌<◌, List, [], ◌∷◌, ◌++◌, length, map, set, get_or, slice_get}
use Rattle.std.proofs.Common.{slice_set, Option, Some, None, refl, sym, ap, ◌∙◌, subst, arith}
use Rattle.std.proofs.lemmas.List.{map-set}
use Rattle.std.proofs.lemmas.Option.{slice_get-map, slice_get-get_or}
use Rattle.mg_text.specs.declared.event.Event.{Event}
use Rattle.vm_model.specs.Program.{Program}
use Rattle.vm_model.specs.Messages.{Messages}
use Rattle.vm_model.specs.Machine.{Machine, Stepped, Went, Waits, Stops, noted}
use Rattle.vm_model.specs.Step.{step}
use Rattle.vm_world_law.specs.declared.role.RoleEvent.{RoleEvent}
use Rattle.vm_world_law.specs.declared.role.Turned.{Turned}
use Rattle.vm_world_law.specs.World as model
use Rattle.vm_world_law.specs.World.{State, Runs, Over, World, of_role, turn, turn_in, stepped, turned, turned_in}
use Rattle.vm_world.specs.declared.role.Role.{Role}
use Rattle.vm_world.specs.Outcome.{Outcome, outcome, outcome_in, outcome_of}
use Rattle.vm_world.specs.View.{role_of, roles_of}

-- an item that is put where it stood changes nothing
pub set_same : {A : Type 0} (xs : List A) (i : ℕ) (x : A) → slice_get xs i ≡ Some x → slice_set xs i x ≡ xs
set_same [] i x at = refl
set_same (y ∷ xs) zero x at = let e : y ≡ x = cc in ap (λ z. z ∷ xs) (sym e)
set_same (y ∷ xs) (suc i) x at = ap (λ l. y ∷ l) (set_same xs i x at)

-- the world with what a turn made of it
abbrev pub with_outcome : World → ℕ → Outcome → World
with_outcome w r o = record {
  roles = slice_set w.roles r o.role;
  messages = o.messages;
  events =
      w.events ++ map (of_role r) (noted o.event);
}

module _ (p : Program) (w : World) (r : ℕ) (role : model.Role) (at : slice_get w.roles r ≡ Some role) where
  nothing : w ≡ record { roles = w.roles; messages = w.messages; events = w.events ++ [] }
  nothing = ap (λ es. record { roles = w.roles; messages = w.messages; events = es }) (sym (Rattle.std.proofs.Common.append-nil w.events))

  by_step : (m : Machine) (out : Stepped) → role.state ≡ Runs m → stepped w r role.count out ≡ with_outcome w r
      (outcome_of role.count m w.messages out)
  by_step m (Went n q e) is = refl
  by_step m (Waits peer) is =
      let same : role ≡ record { state = Runs m; count = role.count } = ap (λ s. record { state = s; count = role.count }) is in
      nothing
      ∙ ap (λ l. record { roles = l; messages = w.messages; events = w.events ++ [] })
      (sym (set_same w.roles r (record { state = Runs m; count = role.count }) (at ∙ ap (λ x. Some x) same)))
  by_step m (Stops ending) is =
      ap (λ es. record {
        roles = slice_set w.roles r (record { state = Over ending; count = suc role.count });
        messages =
            w.messages;
        events = es;
      })
      (sym (Rattle.std.proofs.Common.append-nil w.events))

  by_state : (state : State) → role.state ≡ state → turn_in p w r role.count state ≡ with_outcome w r
      (outcome_in p r role.count w.messages state)
  by_state (Runs m) is = by_step m (step p r m w.messages) is
  by_state (Over ending) is =
      let same : role ≡ record { state = Over ending; count = role.count } = ap (λ s. record { state = s; count = role.count }) is in
      nothing
      ∙ ap (λ l. record { roles = l; messages = w.messages; events = w.events ++ [] })
      (sym (set_same w.roles r (record { state = Over ending; count = role.count }) (at ∙ ap (λ x. Some x) same)))

  pub turn_is : turn p w r ≡ with_outcome w r (outcome p r role w.messages)
  turn_is = ap (model.turn_at p w r) at ∙ by_state role.state refl

  answered_by : (m : Machine) (out : Stepped) → (outcome_of role.count m w.messages out).turned ≡ model.turned_by out
  answered_by m (Went n q e) = refl
  answered_by m (Waits peer) = refl
  answered_by m (Stops ending) = refl

  answered : (state : State) → (outcome_in p r role.count w.messages state).turned ≡ turned_in p w r state
  answered (Runs m) = answered_by m (step p r m w.messages)
  answered (Over ending) = refl

  pub turned_is : Some (outcome p r role w.messages).turned ≡ turned p w r
  turned_is = ap (λ t. Some t) (answered role.state) ∙ sym (ap (model.turned_at p w r) at)

-- The role at a place of the program's list.
module _ (roles : List Role) (i : ℕ) (old : Role) (lt : i < length roles) (is : old ≡ get_or roles i old) where
  pub role_there : slice_get (roles_of roles) i ≡ Some (role_of old)
  role_there =
      slice_get-map role_of roles i
      ∙ ap (λ o. Rattle.std.proofs.Common.option_map role_of o) (slice_get-get_or roles i old lt)
      ∙ ap (λ x. Some (role_of x)) (sym is)

  pub roles_same : (new : Role) → role_of new ≡ role_of old → roles_of (set roles i new) ≡ roles_of roles
  roles_same new same = map-set role_of roles i new ∙ ap (λ x. set (roles_of roles) i x) same ∙ set_same (roles_of roles) i (role_of old)
      role_there

  -- the world behind the turn
  pub turned_world : (p : Program) (q q' : Messages) (events : List RoleEvent) (new : Role) (e : Option Event) (t : Turned) →
      ◌≡◌ {A = Outcome} (record { role = role_of new; messages = q'; event = e; turned = t }) (outcome p i (role_of old) q) →
      ◌≡◌ {A = World} (record { roles = roles_of (set roles i new); messages = q'; events = events ++ map (of_role i) (noted e) })
      (turn p (record { roles = roles_of roles; messages = q; events = events }) i)
  turned_world p q q' events new e t out =
      let w : World = record { roles = roles_of roles; messages = q; events = events } in
      ap (λ l. record { roles = l; messages = q'; events = events ++ map (of_role i) (noted e) }) (map-set role_of roles i new)
      ∙ ap (with_outcome (record { roles = roles_of roles; messages = q; events = events }) i) out
      ∙ sym (turn_is p (record { roles = roles_of roles; messages = q; events = events }) i (role_of old) role_there)

  pub turned_answer : (p : Program) (q q' : Messages) (events : List RoleEvent) (new : Role) (e : Option Event) (t : Turned) →
      ◌≡◌ {A = Outcome} (record { role = role_of new; messages = q'; event = e; turned = t }) (outcome p i (role_of old) q) →
      Some t ≡ turned p (record { roles = roles_of roles; messages = q; events = events }) i
  turned_answer p q q' events new e t out =
      ap (λ (o : Outcome). Some o.turned) out
      ∙ turned_is p (record { roles = roles_of roles; messages = q; events = events }) i (role_of old) role_there

pub many : (roles : List Role) → length (roles_of roles) ≡ length roles
many [] = refl
many (role ∷ roles) = ap suc (many roles)

-- what holds holds on an error
pub on_err_of : {A E P : Type 0} (r : Result A E) → P → OnErr r P
on_err_of (Ok a) h = tt
on_err_of (Err e) h = h
