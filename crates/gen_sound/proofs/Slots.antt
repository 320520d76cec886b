-- Locals of a method: where they stand, and how they are read.
use Rattle.std.proofs.Common.{◌≡◌, ℕ, suc, ◌+◌, Bool, true, false, List, length, Option, Some, None, refl, ap, ◌∙◌, subst, arith}
use Rattle.std.specs.Prelude.{slice_get, nat_eq, if◌then◌else◌}
use Rattle.jv_values.specs.Values.{Value, Row, find}
use Rattle.jv_core.specs.declared.program.MethodKind.{MethodKind}
use Rattle.jv_core.specs.Tree.{Method, Program}
use Rattle.vm_model.specs.declared.value.Value.{Value as Held}
use Rattle.gen_rules.specs.Locals.{first_local, next_local, local_of}
use Rattle.jv_sound.proofs.Worlds.{World, RowFits}
use Rattle.jv_sound.proofs.Worlds as worlds
use Rattle.gen_sound.specs.Related.{flat, Laid}

module _ (p : Program) (m : Method) where
  pub as_long : {w : World} {sc : List ℕ} {row : Row ℕ} → RowFits p m w sc row → length row ≡ length sc
  as_long worlds.none = refl
  as_long (worlds.more h f r) = ap suc (as_long r)

  pub turned : (k j : ℕ) → nat_eq k j ≡ nat_eq j k
  turned k j = grind arith

  -- the local of a slot holds what the row has for it
  pub laid_at : {w : World} {sc : List ℕ} {row : Row ℕ} (kind : MethodKind) (k : ℕ) (v : Value) (ls : List (Option Held)) →
      RowFits p m w sc row →
      Laid (first_local kind) row ls → find nat_eq k row ≡ Some v → slice_get ls (local_of kind sc k) ≡ Some (Some (flat v))
  laid_at kind k v ls worlds.none l e = absurd (cc)
  laid_at kind k v ls (worlds.more {k = j} {v = u} {sc = sc} {row = row} h f r) l e =
      subst (λ b. slice_get ls (if b then next_local kind sc else local_of kind sc k) ≡ Some (Some (flat v))) (turned k j)
      (go (λ i. laid_at kind k v ls r l.1 i) (nat_eq k j) e)
    where
      go : (find nat_eq k row ≡ Some v → slice_get ls (local_of kind sc k) ≡ Some (Some (flat v))) →
          (b : Bool) → (if b then Some u else find nat_eq k row) ≡ Some v →
          slice_get ls (if b then next_local kind sc else local_of kind sc k) ≡ Some (Some (flat v))
      go ih true i = subst (λ n. slice_get ls (first_local kind + n) ≡ Some (Some (flat v))) (as_long r)
          (l.0 ∙ ap (λ o. elim o [ None ↦ None | Some x ↦ Some (Some (flat x)) ]) i)
      go ih false i = ih i
