-- Locals of a method as they are set: the variables of a row stand in them.
use Rattle.std.proofs.Common.{◌≡◌, ◌≢◌, ℕ, suc, ◌+◌, ◌≤◌, ◌<◌, Bool, true, false, List, [], ◌∷◌, length, drop, Option, Some, None}
use Rattle.std.proofs.Common.{refl}
use Rattle.std.proofs.Common.{sym, ap, ◌∙◌, subst, arith}
use Rattle.std.specs.Prelude.{slice_get, slice_set, nat_eq, if◌then◌else◌}
use Rattle.jv_values.specs.Values.{Value, Row, put, over}
use Rattle.jv_core.specs.declared.program.CoreType.{CoreType}
use Rattle.jv_core.specs.declared.program.MethodKind.{MethodKind}
use Rattle.jv_core.specs.Tree.{Method, Program}
use Rattle.vm_model.specs.declared.value.Value.{Value as Held}
use Rattle.vm_model.specs.Tests.{misfit_sort}
use Rattle.gen_rules.specs.Locals.{first_local, next_local, local_of}
use Rattle.jv_sound.proofs.Lists.{some_is}
use Rattle.jv_sound.proofs.Worlds.{World, Fits, RowFits}
use Rattle.jv_sound.proofs.Worlds as worlds
use Rattle.vm_world_law.proofs.Lists.{set_here, set_there}
use Rattle.gen_sound.specs.Related.{flat, Laid}
use Rattle.gen_sound.proofs.Instructions.{sort_of}
use Rattle.gen_sound.proofs.Slots.{as_long, turned}

-- Lists.

pub less_differs : (j i : ℕ) → j < i → j ≢ i
less_differs j i h e = absurd (omega (arith, h, e))

pub fits_sort : (p : Program) (w : World) (v : Value) (t : CoreType) → Fits p w v t → misfit_sort (sort_of t) (flat v) ≡ None
fits_sort p w v t worlds.int = refl
fits_sort p w v t worlds.truth = refl
fits_sort p w v t worlds.text = refl
fits_sort p w v t worlds.null = refl
fits_sort p w v t (worlds.object e) = refl
fits_sort p w v t (worlds.constant e) = refl

-- Rows.

-- a local above the variables may be set
pub laid_above : (first : ℕ) (row : Row ℕ) (ls : List (Option Held)) (i : ℕ) (x : Option Held) → first + length row ≤ i →
    Laid first row ls → Laid first row (slice_set ls i x)
laid_above first [] ls i x h l = tt
laid_above first (e ∷ row) ls i x h l = (
  set_there ls i (first + length row) x (less_differs (first + length row) i (omega (arith, h))) ∙ l.0,
  laid_above first row ls i x (omega (arith, h)) l.1,
)

-- a variable is declared in the next local
pub laid_more : (first : ℕ) (row : Row ℕ) (ls : List (Option Held)) (k : ℕ) (v : Value) → first + length row < length ls →
    Laid first row ls → Laid first ((k, v) ∷ row) (slice_set ls (first + length row) (Some (flat v)))
laid_more first row ls k v h l =
    (set_here ls (first + length row) (Some (flat v)) h, laid_above first row ls (first + length row) (Some (flat v)) (omega arith) l)

-- its scope ends
pub laid_less : (first : ℕ) (row : Row ℕ) (ls : List (Option Held)) → Laid first row ls → Laid first (drop 1 row) ls
laid_less first [] ls l = tt
laid_less first (e ∷ row) ls l = l.1

-- the locals once a variable is set, which stands in local i
pub record PutAt (first : ℕ) (ls : List (Option Held)) (i : ℕ) (v : Value) (row set : Row ℕ) : Type 0 where
  pub laid : Laid first set (slice_set ls i (Some (flat v)))
  pub below : i < first + length row
  pub above : first ≤ i
  pub long : length set ≡ length row

record Over (x : ℕ × Value) (o : Option (Row ℕ)) (row : Row ℕ) : Type 0 where
  rest : Row ℕ
  is : o ≡ Some rest
  row_is : x ∷ rest ≡ row

over_is : (x : ℕ × Value) (o : Option (Row ℕ)) (row : Row ℕ) → over x o ≡ Some row → Over x o row
over_is x None row e = absurd (cc)
over_is x (Some rest) row e = record { rest = rest; is = refl; row_is = some_is e }

module _ (p : Program) (m : Method) where
  -- a variable in scope is set
  pub laid_put : {w : World} {sc : List ℕ} {row : Row ℕ} (kind : MethodKind) (k : ℕ) (v : Value) (ls : List (Option Held)) (set : Row ℕ) →
      RowFits p m w sc row → Laid (first_local kind) row ls → put nat_eq k v row ≡ Some set → local_of kind sc k < length ls →
      PutAt (first_local kind) ls (local_of kind sc k) v row set
  laid_put kind k v ls set worlds.none l e within = absurd (cc)
  laid_put kind k v ls set (worlds.more {k = j} {v = u} {sc = sc} {row = row} h f r) l e within =
      subst (λ b. PutAt (first_local kind) ls (if b then next_local kind sc else local_of kind sc k) v ((j, u) ∷ row) set) (turned p m k j)
      (go (λ rest i lt. laid_put kind k v ls rest r l.1 i lt) (nat_eq k j) e
      (subst (λ b. (if b then next_local kind sc else local_of kind sc k) < length ls) (sym (turned p m k j)) within))
    where
      go : ((rest : Row ℕ) → put nat_eq k v row ≡ Some rest → local_of kind sc k < length ls →
          PutAt (first_local kind) ls (local_of kind sc k) v row rest) →
          (b : Bool) → (if b then Some ((j, v) ∷ row) else over (j, u) (put nat_eq k v row)) ≡ Some set →
          (if b then next_local kind sc else local_of kind sc k) < length ls →
          PutAt (first_local kind) ls (if b then next_local kind sc else local_of kind sc k) v ((j, u) ∷ row) set
      go ih true i lt =
          let long : length row ≡ length sc = as_long p m r in
          subst (PutAt (first_local kind) ls (first_local kind + length sc) v ((j, u) ∷ row)) (some_is i)
          (subst (λ n. PutAt (first_local kind) ls (first_local kind + n) v ((j, u) ∷ row) ((j, v) ∷ row)) long
          (record {
            laid = laid_more (first_local kind) row ls j v (subst (λ n. first_local kind + n < length ls) (sym long) lt) l.1;
            below = omega arith;
            above = omega arith;
            long = refl;
          }))
      go ih false i lt =
          let o = over_is (j, u) (put nat_eq k v row) set i in
          let a = ih o.rest o.is lt in
          let place : ℕ = local_of kind sc k in
          let differs : first_local kind + length o.rest ≢ place =
          (λ e. absurd (let h = a.below in let g = a.long in omega (arith, e, h, g))) in
          let here : slice_get ls (first_local kind + length o.rest) ≡ Some (Some (flat u)) =
          subst (λ n. slice_get ls (first_local kind + n) ≡ Some (Some (flat u))) (sym a.long) l.0 in
          subst (PutAt (first_local kind) ls place v ((j, u) ∷ row)) o.row_is
          (record {
            laid = (set_there ls place (first_local kind + length o.rest) (Some (flat v)) differs ∙ here, a.laid);
            below = let h = a.below in omega (arith, h);
            above = a.above;
            long = ap suc a.long;
          })
