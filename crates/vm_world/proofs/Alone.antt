-- What turns that are taken alone make of the world.
use Rattle.std.proofs.Common.{◌≡◌, ℕ, zero, suc, ◌+◌, ◌<◌, List, [], ◌∷◌, length, set, get_or, slice_get, slice_set, Option, Some, None}
use Rattle.std.proofs.Common.{true, refl, sym, ap, ◌∙◌, subst, add-zero, add-suc, append-nil, ◌≤◌, ◌-◌, ◌^◌, Bool, false, IfSome, arith}
use Rattle.std.proofs.lemmas.List.{map-set}
use Rattle.vm_model.specs.Program.{Program}
use Rattle.vm_model.specs.Messages.{Messages}
use Rattle.vm_model.specs.Machine.{Machine, Stepped, Went}
use Rattle.vm_step.specs.Alone.{StepAlone, AllAlone}
use Rattle.vm_world_law.specs.declared.role.RoleEvent.{RoleEvent}
use Rattle.vm_world_law.specs.declared.role.Turned.TheVariants as answers
use Rattle.vm_world_law.specs.World as model
use Rattle.vm_world_law.specs.World.{State, Runs, Over, World, turn, turn_at, stepped, turned, turned_at, turned_by}
use Rattle.vm_world_law.specs.Turns.{Advances}
use Rattle.vm_world_law.proofs.Moments.{went}
use Rattle.vm_world.specs.declared.role.Role.{Role}
use Rattle.vm_world.specs.View.{role_of, roles_of}
use Rattle.vm_world.specs.Seen.{Seen}
use Rattle.vm_world.specs.Alone.{StateAlone, RoleAlone, TurnsAlone, Counts, with_role}
use Rattle.vm_world.proofs.Turning.{set_same, role_there}

get_set : {A : Type 0} (xs : List A) (i : ℕ) (x y : A) → slice_get xs i ≡ Some x → slice_get (slice_set xs i y) i ≡ Some y
get_set [] i x y at = absurd (cc at)
get_set (z ∷ xs) zero x y at = refl
get_set (z ∷ xs) (suc i) x y at = get_set xs i x y at

set_set : {A : Type 0} (xs : List A) (i : ℕ) (x y : A) → slice_set (slice_set xs i x) i y ≡ slice_set xs i y
set_set [] i x y = refl
set_set (z ∷ xs) zero x y = refl
set_set (z ∷ xs) (suc i) x y = ap (λ l. z ∷ l) (set_set xs i x y)

abbrev pub running : Machine → ℕ → model.Role
running m count = record { state = Runs m; count = count }

-- so many turns of a role, each of which counts
abbrev pub AllCount : Program → World → (r k : ℕ) → World → Type 0
AllCount p w r zero v = v ≡ w
AllCount p w r (suc k) v = (u : World) × (AllCount p w r k u × Advances p u r v true)

module _ (p : Program) (w : World) (r : ℕ) where
  -- a step alone is a turn that counts
  one_turn : (before : model.Role) (x n : Machine) (count : ℕ) → slice_get w.roles r ≡ Some before → StepAlone p x n →
      Advances p (with_role w r (running x count)) r (with_role w r (running n (suc count))) true
  one_turn before x n count at one =
      let u : World = with_role w r (running x count) in
      let here : slice_get u.roles r ≡ Some (running x count) = get_set w.roles r before (running x count) at in
      let made : turn p u r ≡ stepped u r count (Went n u.messages None) = ap (turn_at p u r) here ∙ ap (stepped u r count)
      (one r u.messages) in
      let goes : with_role w r (running n (suc count)) ≡ turn p u r =
      ap (λ l. record { roles = l; messages = w.messages; events = w.events })
      (sym (set_set w.roles r (running x count) (running n (suc count))))
      ∙ ap (λ es. record { roles = slice_set u.roles r (running n (suc count)); messages = w.messages; events = es })
      (sym (append-nil w.events))
      ∙ sym made in
      let answer : Some answers.Went ≡ turned p u r =
      sym (ap (turned_at p u r) here ∙ ap (λ (s : Stepped). Some (turned_by s)) (one r u.messages)) in
      subst (λ (v : World). Advances p u r v true) (sym goes) (went p u r answer)

  turns_of : (m : Machine) (count k : ℕ) (n : Machine) → slice_get w.roles r ≡ Some (running m count) → AllAlone p m k n →
      AllCount p w r k (with_role w r (running n (count + k)))
  turns_of m count zero n at same =
      ap (λ l. record { roles = l; messages = w.messages; events = w.events })
      (ap (slice_set w.roles r) (ap (λ x. running x (count + 0)) same ∙ ap (running m) (add-zero count))
      ∙ set_same w.roles r (running m count) at)
  turns_of m count (suc k) n at (x, (all, one)) = (
    with_role w r (running x (count + k)),
    (
      turns_of m count k x at all,
      subst (λ c. Advances p (with_role w r (running x (count + k))) r (with_role w r (running n c)) true) (sym (add-suc count k))
          (one_turn (running m count) x n (count + k) at one),
    ),
  )

  by_states : (k : ℕ) (s t : State) (c d : ℕ) → slice_get w.roles r ≡ Some (record { state = s; count = c }) → StateAlone p k s t →
      d ≡ c + k →
      AllCount p w r k (with_role w r (record { state = t; count = d }))
  by_states k (Runs m) (Runs n) c d at h more =
      subst (λ e. AllCount p w r k (with_role w r (running n e))) (sym more) (turns_of m c k n at h)
  by_states k (Runs m) (Over ending) c d at h more = absurd h
  by_states k (Over ending) t c d at h more =
      let none : d ≡ c = more ∙ ap (λ j. c + j) h.0 ∙ add-zero c in
      subst (λ j. AllCount p w r j (with_role w r (record { state = t; count = d }))) (sym h.0)
      (ap (λ l. record { roles = l; messages = w.messages; events = w.events })
      (ap (slice_set w.roles r) (ap (λ x. record { state = x; count = d }) h.1 ∙ ap (λ e. record { state = Over ending; count = e }) none)
      ∙ set_same w.roles r (record { state = Over ending; count = c }) at))

  pub by_roles : (k : ℕ) (before after : model.Role) → slice_get w.roles r ≡ Some before → RoleAlone p before k after →
      AllCount p w r k (with_role w r after)
  by_roles k before after at h = by_states k before.state after.state before.count after.count at h.state h.count

  pub all_count : (k : ℕ) (v : World) → TurnsAlone p w r k v → AllCount p w r k v
  all_count k v t = subst (λ (u : World). AllCount p w r k u) (sym t.is) (by_roles k t.before t.after t.there t.alone)

-- no step alone changes nothing
pub none_alone : (p : Program) (before after : model.Role) → RoleAlone p before 0 after → after ≡ before
none_alone p before after h = by_states before.state after.state before.count after.count h.state h.count
  where
    same_count : (s : State) (c d : ℕ) → d ≡ c + 0 → ◌≡◌ {A = model.Role} (record { state = s; count = d })
        (record { state = s; count = c })
    same_count s c d more = ap (λ e. record { state = s; count = e }) (more ∙ add-zero c)

    by_states : (s t : State) (c d : ℕ) → StateAlone p 0 s t → d ≡ c + 0 →
        ◌≡◌ {A = model.Role} (record { state = t; count = d }) (record { state = s; count = c })
    by_states (Runs m) (Runs n) c d same more = ap (λ x. running x d) same ∙ same_count (Runs m) c d more
    by_states (Runs m) (Over ending) c d same more = absurd same
    by_states (Over ending) t c d same more = ap (λ x. record { state = x; count = d }) same.1 ∙ same_count (Over ending) c d more

-- the same of the program's list of roles
pub turns_world : (p : Program) (roles : List Role) (i : ℕ) (old : Role) → i < length roles → old ≡ get_or roles i old → (q : Messages)
    (events : List RoleEvent) (new : Role) (k : ℕ) → RoleAlone p (role_of old) k (role_of new) →
    TurnsAlone p (record { roles = roles_of roles; messages = q; events = events }) i k
    (record { roles = roles_of (set roles i new); messages = q; events = events })
turns_world p roles i old lt is q events new k h = record {
  before = role_of old;
  after = role_of new;
  there = role_there roles i old lt is;
  alone = h;
  is = ap (λ l. record { roles = l; messages = q; events = events }) (map-set role_of roles i new);
}

-- some turns that were taken alone count
pub counts_some : (p : Program) (w v : World) (r k : ℕ) → 0 < k → TurnsAlone p w r k v → Counts p w r k v
counts_some p w v r zero some h = absurd (omega (arith, some))
counts_some p w v r (suc zero) some h = one (all_count p w r 1 v h)
  where
    one : AllCount p w r 1 v → Advances p w r v true
    one (u, (same, a)) = subst (λ (x : World). Advances p x r v true) same a
counts_some p w v r (suc (suc k)) some h = h

-- turns that count, one after another
pub all_of_counts : (p : Program) (w v : World) (r k : ℕ) → Counts p w r (suc k) v → AllCount p w r (suc k) v
all_of_counts p w v r zero h = (w, (refl, h))
all_of_counts p w v r (suc k) h = all_count p w r (suc (suc k)) v h

-- where none was nothing has changed
pub none_taken : (before after : Seen) (r k : ℕ) → after.program ≡ before.program → TurnsAlone before.program before.world r k after.world →
    k ≤ 0 →
    after ≡ before
none_taken before after r zero same h none =
    let w : World = before.world in
    let unchanged : after.world ≡ w =
    h.is ∙ ap (with_role w r) (none_alone before.program h.before h.after h.alone)
    ∙ ap (λ l. record { roles = l; messages = w.messages; events = w.events }) (set_same w.roles r h.before h.there) in
    λ i. record { program = same i; world = unchanged i }
none_taken before after r (suc k) same h none = absurd (omega (arith, none))

-- a turn by the general tests, behind none that was taken alone
pub counts_one : (before now : Seen) (r : ℕ) (v : World) (b : Bool) → now ≡ before → b ≡ true → Advances now.program now.world r v b →
    Counts before.program before.world r 1 v
counts_one before now r v true same e a = subst (λ (s : Seen). Advances s.program s.world r v true) same a
counts_one before now r v false same e a = absurd (cc e)

pub counts_none : (before now : Seen) (r : ℕ) (v : World) (b : Bool) → now ≡ before → b ≡ false → Advances now.program now.world r v b →
    Counts before.program before.world r 0 v
counts_none before now r v false same e a = subst (λ (s : Seen). Advances s.program s.world r v false) same a
counts_none before now r v true same e a = absurd (cc e)

pub still_room : (o : Option model.Role) (most : ℕ) → 0 < most → IfSome o (λ r. r.count + most < 2 ^ 32) →
    IfSome o (λ r. r.count < 2 ^ 32 - 1)
still_room None most some h = tt
still_room (Some role) most some h = omega (arith, some, h)
