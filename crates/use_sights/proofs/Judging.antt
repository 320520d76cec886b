-- What a set fails, demand by demand.
use Rattle.std.proofs.Common.{◌≡◌, ℕ, zero, suc, ◌+◌, Bool, true, false, ◌⊎◌, List, [], ◌∷◌, ◌++◌, Option, Some, None, refl, sym, ap, ◌∙◌, subst}
use Rattle.std.proofs.Common.{arith, ⊎_elim, inl}
use Rattle.mg_text.specs.Call.{Name}
use Rattle.mg_text.specs.declared.place.Place.{Place}
use Rattle.mg_sets.specs.Sets.{has}
use Rattle.ts_tree.specs.Typestate.{Typestate}
use Rattle.ts_tree.specs.Calls.{drops}
use Rattle.std.specs.Prelude.{if◌then◌else◌}
use Rattle.use_rules.specs.declared.demand.Demand.{Demand}
use Rattle.use_rules.specs.declared.demand.DemandKind.{DemandKind}
use Rattle.use_rules.specs.declared.demand.DemandKind.TheVariants as demands
use Rattle.use_rules.specs.Elements.{Set, if_open, element_at}
use Rattle.use_rules.specs.State.{judged_from, judged}
use Rattle.use_rules.specs.inner.Order.{Mem}
use Rattle.use_rules.proofs.Members.{mem_cases, has_member, has_source, Source}

-- The demand that an element fails.
module _ (rule : ℕ → Option DemandKind) (q : Place) (y : ℕ) (x : Name) (c : ℕ) where
  abbrev pub demand_of : DemandKind → (element : ℕ) → Demand
  demand_of k e = record { kind = k; place = q; variable = y; slot = x; class = c; element = element_at e }

  abbrev pub failed_by : (element : ℕ) → Option DemandKind → List Demand
  failed_by e o = elim o as (λ _. List Demand) [ None ↦ [] | Some k ↦ demand_of k e ∷ [] ]

  pub record IsOf (s : Set) (d : Demand) : Type 0 where
    pub element : ℕ
    pub has_it : has s element ≡ true
    pub fails : rule element ≡ Some d.kind
    pub place_is : d.place ≡ q
    pub element_is : d.element ≡ element_at element

  one_of : (o : Option DemandKind) (s : Set) (e : ℕ) (d : Demand) → has s e ≡ true → rule e ≡ o → Mem d (failed_by e o) → IsOf s d
  one_of None s e d there r m = absurd m
  one_of (Some k) s e d there r m = ⊎_elim
      (λ i. record {
        element = e;
        has_it = there;
        fails = r ∙ ap (λ (z : Demand). Some z.kind) (sym i);
        place_is = ap (λ (z : Demand). z.place) i;
        element_is = ap (λ (z : Demand). z.element) i;
      })
      absurd m

  pub is_of : (s : Set) (d : Demand) → Mem d (judged rule q y x c s) → IsOf s d
  is_of s d m =
      let i : Source (judged_from rule q y x c) (λ e. failed_by e (rule e)) (λ k. refl) (λ k s. refl) (λ k s. refl) d 0 s =
      has_source (judged_from rule q y x c) (λ e. failed_by e (rule e)) (λ k. refl) (λ k s. refl) (λ k s. refl) d 0 s m in
      one_of (rule i.element) s i.element d i.here refl (subst (λ e. Mem d (failed_by e (rule e))) (nothing i.element) i.stands)
    where
      nothing : (e : ℕ) → 0 + e ≡ e
      nothing e = omega arith

  pub is_there : (s : Set) (e : ℕ) (k : DemandKind) → has s e ≡ true → rule e ≡ Some k → Mem (demand_of k e) (judged rule q y x c s)
  is_there s e k there r =
      has_member (judged_from rule q y x c) (λ e. failed_by e (rule e)) (λ k. refl) (λ k s. refl) (λ k s. refl) (demand_of k e) 0 s e there
      (subst (λ z. Mem (demand_of k e) (failed_by z (rule z))) (nothing e)
      (subst (λ o. Mem (demand_of k e) (failed_by e o)) (sym r) (inl refl)))
    where
      nothing : (e : ℕ) → e ≡ 0 + e
      nothing e = omega arith

-- Demands on what is left: these are no demands on calls or reads.

abbrev pub IsLeft : DemandKind → Type 0
IsLeft demands.LeftOpen = Unit {0}
IsLeft demands.Overwritten = Unit {0}
IsLeft demands.FieldOpenAtEnd = Unit {0}
IsLeft _ = ⊥

pub record AreLeft (ds : List Demand) : Type 0 where
  pub each : (d : Demand) → Mem d ds → IsLeft d.kind

pub none_left : AreLeft []
none_left = record { each = λ d m. absurd m }

pub both_left : (a b : List Demand) → AreLeft a → AreLeft b → AreLeft (a ++ b)
both_left a b x y = record { each = λ d m. ⊎_elim (x.each d) (y.each d) (mem_cases d a b m) }

some_is : {A : Type 0} (x y : A) → Some x ≡ Some y → x ≡ y
some_is x y e = cc

none_some : {A : Type 0} (x : A) → None ≡ Some x → ⊥
none_some x e = cc

dropped_or : (b : Bool) (k l : DemandKind) → (if b then None else Some k) ≡ Some l → l ≡ k
dropped_or true k l e = absurd (none_some l e)
dropped_or false k l e = sym (some_is k l e)

open_kind : (k l : DemandKind) (ts : Typestate) (e : ℕ) → if_open k ts e ≡ Some l → l ≡ k
open_kind k l ts zero h = absurd (none_some l h)
open_kind k l ts (suc zero) h = absurd (none_some l h)
open_kind k l ts (suc (suc zero)) h = absurd (none_some l h)
open_kind k l ts (suc (suc (suc q))) h = dropped_or (drops ts q) k l h

pub open_left : (k : DemandKind) → IsLeft k → (ts : Typestate) (q : Place) (y : ℕ) (x : Name) (c : ℕ) (s : Set) →
    AreLeft (judged (if_open k ts) q y x c s)
open_left k left ts q y x c s = record {
  each = λ d m.
      let i = is_of (if_open k ts) q y x c s d m in
      subst IsLeft (sym (open_kind k d.kind ts i.element i.fails)) left;
}
