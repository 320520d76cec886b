-- Machines fit their typings again, whatever turns were taken.
use Rattle.std.proofs.Common.{◌≡◌, ℕ, zero, suc, List, [], ◌∷◌, set, get_or, slice_get, slice_set, Option, Some, None, IfSome}
use Rattle.std.proofs.Common.{refl, sym, ap, subst, length, ◌<◌, ◌^◌, length-set}
use Rattle.std.specs.List.{AllByRecursion}
use Rattle.std.proofs.lemmas.List.{map-set}
use Rattle.mg_text.specs.declared.event.Event.{Event}
use Rattle.vm_model.specs.Program.{Program}
use Rattle.vm_model.specs.Messages.{Messages}
use Rattle.vm_model.specs.Machine.{Machine, Stepped, Went, Waits, Stops}
use Rattle.vm_model.specs.Step.{step}
use Rattle.vm_step.proofs.Alike.{steps_sound}
use Rattle.cls_verify.specs.Typing.{AllTypable}
use Rattle.cls_verify.specs.Sound.{Sound}
use Rattle.cls_verify.proofs.Rightly.{starts_sound, stays_sound}
use Rattle.vm_flat.specs.declared.program.FlatProgram.{FlatProgram}
use Rattle.vm_world_law.specs.declared.role.RoleMain.{RoleMain}
use Rattle.vm_world_law.specs.declared.role.Turned.{Turned}
use Rattle.vm_world_law.specs.World as model
use Rattle.vm_world_law.specs.World.{State, Runs, Over, StartAt}
use Rattle.vm_world.specs.declared.role.Role.{Role}
use Rattle.vm_world.specs.Outcome.{Outcome, outcome, outcome_in, outcome_of}
use Rattle.vm_world.specs.View.{role_of, roles_of}
use Rattle.vm_world.specs.Alone.{StateAlone, RoleAlone}
use Rattle.vm_world.specs.Typed.{StateSuits, RoleSuits, IsTyped, SuitsWhereFlat}
use Rattle.vm_world.proofs.Turning.{role_there}

all_set : {A : Type 0} (P : A → Type 0) (xs : List A) (i : ℕ) (y : A) → AllByRecursion P xs → P y → AllByRecursion P (slice_set xs i y)
all_set P [] i y h is = h
all_set P (x ∷ xs) zero y h is = (is, h.1)
all_set P (x ∷ xs) (suc i) y h is = (h.0, all_set P xs i y h.1 is)

all_at : {A : Type 0} (P : A → Type 0) (xs : List A) (i : ℕ) (x : A) → AllByRecursion P xs → slice_get xs i ≡ Some x → P x
all_at P [] i x h at = absurd (cc at)
all_at P (y ∷ xs) zero x h at = let e : y ≡ x = cc at in subst P e h.0
all_at P (y ∷ xs) (suc i) x h at = all_at P xs i x h.1 at

module _ (p : Program) (all : AllTypable p) where
  states_suit : (k : ℕ) (s t : State) → StateAlone p k s t → StateSuits p s → StateSuits p t
  states_suit k (Runs m) (Runs n) alone h = steps_sound p all m n k h alone
  states_suit k (Runs m) (Over ending) alone h = absurd alone
  states_suit k (Over ending) t alone h = subst (StateSuits p) (sym alone.1) tt

  pub alone_suits : (before : model.Role) (k : ℕ) (after : model.Role) → RoleAlone p before k after → RoleSuits p before →
      RoleSuits p after
  alone_suits before k after alone h = states_suit k before.state after.state alone.state h

  -- a turn
  by_step : (me count : ℕ) (m : Machine) (q : Messages) (out : Stepped) → step p me m q ≡ out → Sound p m →
      RoleSuits p (outcome_of count m q out).role
  by_step me count m q (Went n r e) is h = stays_sound p all me m n q r e h is
  by_step me count m q (Waits peer) is h = h
  by_step me count m q (Stops ending) is h = tt

  by_state : (me count : ℕ) (q : Messages) (s : State) → StateSuits p s → RoleSuits p (outcome_in p me count q s).role
  by_state me count q (Runs m) h = by_step me count m q (step p me m q) refl h
  by_state me count q (Over ending) h = tt

  pub outcome_suits : (me : ℕ) (role : model.Role) (q : Messages) → RoleSuits p role → RoleSuits p (outcome p me role q).role
  outcome_suits me role q h = by_state me role.count q role.state h

  -- where roles begin
  begun_suit : (mains : List RoleMain) (roles : List model.Role) → StartAt p mains roles → AllByRecursion (RoleSuits p) roles
  begun_suit [] [] start = tt
  begun_suit [] (role ∷ roles) start = absurd start
  begun_suit (main ∷ mains) [] start = absurd start
  begun_suit (main ∷ mains) (role ∷ roles) ((m, at, is), start) = (
    subst (RoleSuits p) (sym is) (starts_sound p all main.class m at),
    begun_suit mains roles start,
  )

pub new_suits : (p : Program) (flat : Option FlatProgram) (mains : List RoleMain) (roles : List model.Role) → IfSome flat (IsTyped p) →
    StartAt p mains roles → SuitsWhereFlat p roles flat
new_suits p None mains roles typed start = typed
new_suits p (Some flat) mains roles typed start =
    record { typed = typed; roles_suit = begun_suit p typed.typable mains roles start }

-- what is kept of a program, its roles and its flat form
abbrev pub IsKept : Program → List Role → Option FlatProgram → Type 0
IsKept p roles flat = (length roles < 2 ^ 32) × SuitsWhereFlat p (roles_of roles) flat

-- another role at a place of the program's list
module _ (p : Program) (roles : List Role) (i : ℕ) (old : Role) (lt : i < length roles) (is : old ≡ get_or roles i old) (new : Role) where
  suits_then : (flat : Option FlatProgram) → (AllTypable p → RoleSuits p (role_of old) → RoleSuits p (role_of new)) →
      SuitsWhereFlat p (roles_of roles) flat → SuitsWhereFlat p (roles_of (set roles i new)) flat
  suits_then None next h = h
  suits_then (Some flat) next h = record {
    typed = h.typed;
    roles_suit = subst (AllByRecursion (RoleSuits p)) (sym (map-set role_of roles i new))
        (all_set (RoleSuits p) (roles_of roles) i (role_of new) h.roles_suit
        (next h.typed.typable (all_at (RoleSuits p) (roles_of roles) i (role_of old) h.roles_suit (role_there roles i old lt is))));
  }

  kept_then : (flat : Option FlatProgram) → (AllTypable p → RoleSuits p (role_of old) → RoleSuits p (role_of new)) →
      IsKept p roles flat → IsKept p (set roles i new) flat
  kept_then flat next h = (subst (λ k. k < 2 ^ 32) (sym (length-set roles i new)) h.0, suits_then flat next h.1)

  -- behind steps alone
  pub kept_alone : (flat : Option FlatProgram) (k : ℕ) → RoleAlone p (role_of old) k (role_of new) → IsKept p roles flat →
      IsKept p (set roles i new) flat
  kept_alone flat k alone h = kept_then flat (λ all. alone_suits p all (role_of old) k (role_of new) alone) h

  -- where nothing has changed
  pub kept_same : (flat : Option FlatProgram) → role_of new ≡ role_of old → IsKept p roles flat → IsKept p (set roles i new) flat
  kept_same flat same h = kept_then flat (λ all at. subst (RoleSuits p) (sym same) at) h

  -- behind a turn
  pub kept_turned : (flat : Option FlatProgram) (q r : Messages) (e : Option Event) (t : Turned) →
      ◌≡◌ {A = Outcome} (record { role = role_of new; messages = r; event = e; turned = t }) (outcome p i (role_of old) q) →
      IsKept p roles flat → IsKept p (set roles i new) flat
  kept_turned flat q r e t out h =
      kept_then flat (λ all at. subst (RoleSuits p) (sym (ap (λ (o : Outcome). o.role) out)) (outcome_suits p all i (role_of old) q at)) h

-- the flat form and the typings, where there is a flat form
pub suits_at : (p : Program) (roles : List Role) (i : ℕ) (old : Role) → i < length roles → old ≡ get_or roles i old →
    (flat : Option FlatProgram) → SuitsWhereFlat p (roles_of roles) flat → IfSome flat (λ f. IsTyped p f × RoleSuits p (role_of old))
suits_at p roles i old lt is None h = h
suits_at p roles i old lt is (Some flat) h =
    (h.typed, all_at (RoleSuits p) (roles_of roles) i (role_of old) h.roles_suit (role_there roles i old lt is))
