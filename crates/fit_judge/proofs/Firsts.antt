-- Conditions one after another.
use Rattle.std.proofs.Common.{◌≡◌, List, [], ◌∷◌, ◌++◌, Option, Some, None, Result, Ok, Err, refl, subst}
use Rattle.std.specs.Prelude.{IfOk}
use Rattle.mg_text.specs.declared.memory.Memory.{Memory}
use Rattle.mg_read.specs.First.{FirstOf, none, this, next}
use Rattle.mg_read.proofs.Judging.{first_of-append}
use Rattle.scr_global_tree.specs.Tree.{GlobalTree}
use Rattle.jv_core.specs.Tree.{Program}
use Rattle.vm_world_law.specs.declared.role.RoleMain.{RoleMain}
use Rattle.mg_refusal.specs.Refusals.{Refusal}
use Rattle.mg_sources.specs.Reading.{Part}
use Rattle.mg_fits.specs.Conditions.{Condition, Of}
use Rattle.fit_judge.specs.Verdict.{IsFirstOf}

-- a fault of the first conditions is one of all
first_front : {K C : Type 0} {At : K → Option C → Type 0} {ks : List K} (ls : List K) {f : K × C} (s : Option (K × C)) → FirstOf At ks s →
    s ≡ Some f → FirstOf At (ks ++ ls) (Some f)
first_front ls s none e = let no_fault : ⊥ = cc in absurd no_fault
first_front {At = At} ls s (this {k = k} {ks = more} a) e = subst (FirstOf At (k ∷ (more ++ ls))) e (this a)
first_front ls s (next n f) e = next n (first_front ls s f e)

module _ (g : GlobalTree) (parts : List Part) (core : Program) (mains : List RoleMain) where
  abbrev pub Answer : Condition → Option Refusal → Type 0
  Answer = Of g parts core mains

  abbrev pub First : List Condition → Option Refusal → Type 0
  First = IsFirstOf g parts core mains

  pub fault : (k : Condition) (ks : List Condition) (r : Refusal) → Answer k (Some r) → First (k ∷ ks) (Some r)
  fault k ks r a = (k, this a)

  pub onward : (k : Condition) (ks : List Condition) (r : Option Refusal) → Answer k None → First ks r → First (k ∷ ks) r
  onward k ks None n f = next n f
  onward k ks (Some r) n f = (f.0, next n f.1)

  pub last : (k : Condition) (r : Option Refusal) → Answer k r → First (k ∷ []) r
  last k None n = next n none
  last k (Some r) a = fault k [] r a

  -- of conditions behind others
  pub fault_front : (ks ls : List Condition) (r : Refusal) → First ks (Some r) → First (ks ++ ls) (Some r)
  fault_front ks ls r f = (f.0, first_front ls (Some (f.0, r)) f.1 refl)

  pub behind : (ks ls : List Condition) (r : Option Refusal) → First ks None → First ls r → First (ks ++ ls) r
  behind ks ls None n f = first_of-append n f
  behind ks ls (Some r) n f = (f.0, first_of-append n f.1)

  module _ (k : Condition) (ks : List Condition) where
    -- of the same conditions, where memory may run out
    pub onward_ok : (o : Result (Option Refusal) Memory) → Answer k None → IfOk o (First ks) → IfOk o (First (k ∷ ks))
    onward_ok (Ok r) n f = onward k ks r n f
    onward_ok (Err e) n f = tt

  pub last_ok : (k : Condition) (o : Result (Option Refusal) Memory) → IfOk o (Answer k) → IfOk o (First (k ∷ []))
  last_ok k (Ok r) a = last k r a
  last_ok k (Err e) a = tt

  pub behind_ok : (ks ls : List Condition) (o : Result (Option Refusal) Memory) → First ks None → IfOk o (First ls) → IfOk o (First (ks ++ ls))
  behind_ok ks ls (Ok r) n f = behind ks ls r n f
  behind_ok ks ls (Err e) n f = tt
