-- What turns make of the world of which an object tells.
use Rattle.std.proofs.Common.{◌≡◌, ℕ, suc, ◌+◌, ◌<◌, List, [], ◌∷◌, ◌++◌, length, set, get_or, Bool, true, false, Option, Some, None}
use Rattle.std.proofs.Common.{Result, IfOk, IfSome, ◌-◌, ◌^◌, refl, sym, ap, ◌∙◌, subst, arith}
use Rattle.vm_model.specs.Program.{Program}
use Rattle.vm_model.specs.Messages.{Messages}
use Rattle.vm_model.specs.Machine.{Machine}
use Rattle.vm_typed.specs.declared.telling.Telling.{Telling}
use Rattle.vm_typed.specs.Telling.{Tells, event_told}
use Rattle.vm_world_law.specs.declared.role.RoleEvent.{RoleEvent}
use Rattle.vm_world_law.specs.declared.role.Turned.{Turned}
use Rattle.vm_world_law.specs.declared.role.Turned.TheVariants as answers
use Rattle.vm_world_law.specs.World as model
use Rattle.vm_world_law.specs.World.{Runs, World, of_role, turn, turned}
use Rattle.vm_world_law.specs.Turns.{Advances}
use Rattle.vm_world_law.proofs.Moments.{went}
use Rattle.vm_world.specs.declared.role.Role.{Role}
use Rattle.vm_world.specs.Outcome.{Outcome, outcome_of}
use Rattle.vm_world.specs.View.{role_of, roles_of}
use Rattle.vm_world.specs.Seen.{Seen}
use Rattle.vm_world.specs.Told.{TurnTells, WorldTells}
use Rattle.vm_world.proofs.Alone.{running}
use Rattle.vm_world.proofs.Turning.{turned_world, turned_answer}

pub role_tells : (p : Program) (m n : Machine) (count more : ℕ) (telling : Telling) → more ≡ count + 1 → Tells p m n telling →
    TurnTells p (running m count) (running n more) telling
role_tells p m n count more telling is h = record {
  there = h.there;
  outcome_is = λ me q.
      ap (λ k. told_outcome k q) (let e : more ≡ suc count = omega (arith, is) in e)
      ∙ ap (outcome_of count m q) (sym (h.steps me q));
}
  where
    told_outcome : ℕ → Messages → Outcome
    told_outcome k q = record { role = running n k; messages = q; event = Some (event_told p telling); turned = answers.Went }

-- the turn advances the world
pub world_tells : (roles : List Role) (i : ℕ) (old : Role) → i < length roles → old ≡ get_or roles i old → (p : Program) (q : Messages)
    (events : List RoleEvent) (new : Role) (telling : Telling) → TurnTells p (role_of old) (role_of new) telling →
    Advances p (record { roles = roles_of roles; messages = q; events = events }) i
    (record { roles = roles_of (set roles i new); messages = q; events = events ++ of_role i (event_told p telling) ∷ [] }) true
world_tells roles i old lt is p q events new telling h =
    let w : World = record { roles = roles_of roles; messages = q; events = events } in
    let v : World = record { roles = roles_of (set roles i new); messages = q; events = events ++ of_role i (event_told p telling) ∷ [] } in
    let answer : Some answers.Went ≡ turned p w i =
    turned_answer roles i old lt is p q q events new (Some (event_told p telling)) answers.Went (h.outcome_is i q) in
    subst (λ (u : World). Advances p w i u true)
    (sym (turned_world roles i old lt is p q q events new (Some (event_told p telling)) answers.Went (h.outcome_is i q)))
    (went p w i answer)

-- where it tells nothing, nothing has changed
pub told_none : (s t : Seen) (r : ℕ) (told : Bool) → t.program ≡ s.program → WorldTells s.program s.world r told t.world → told ≡ false →
    t ≡ s
told_none s t r true same h none = absurd (cc none)
told_none s t r false same h none =
    ap (λ p. seen_of p t.world) same ∙ ap (λ w. seen_of s.program w) h
  where
    seen_of : Program → World → Seen
    seen_of p w = record { program = p; world = w }

-- else the turn counts an instruction
pub told_so : (s t : Seen) (r : ℕ) (told : Bool) → WorldTells s.program s.world r told t.world → told ≡ true →
    Advances s.program s.world r t.world true
told_so s t r true h some = h
told_so s t r false h some = absurd (cc some)

-- what holds of a turn holds where nothing has changed before it
pub advances_same : {E : Type 0} (s t : Seen) (r : ℕ) (v : World) (o : Result Bool E) → t ≡ s →
    IfOk o (λ b. Advances t.program t.world r v b) → IfOk o (λ b. Advances s.program s.world r v b)
advances_same s t r v o same h = subst (λ (u : Seen). IfOk o (λ b. Advances u.program u.world r v b)) same h

pub one_less_room : (o : Option model.Role) → IfSome o (λ r. r.count + 1 < 2 ^ 32) → IfSome o (λ r. r.count < 2 ^ 32 - 1)
one_less_room None h = tt
one_less_room (Some role) h = omega (arith, h)

pub is_false : (P : Bool → Type 0) (b : Bool) → b ≡ false → P b → P false
is_false P true e h = absurd (cc e)
is_false P false e h = h

pub is_true : (P : Bool → Type 0) (b : Bool) → b ≡ true → P b → P true
is_true P true e h = h
is_true P false e h = absurd (cc e)
