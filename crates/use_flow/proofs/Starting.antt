-- What a turn of a loop over parameters and other variables does.
use Rattle.std.proofs.Common.{◌≡◌, ℕ, zero, suc, ◌+◌, ◌-◌, ◌<◌, ◌≤◌, List, [], ◌∷◌, ◌++◌, length, get_or, drop, map, replicate, refl, sym, ap}
use Rattle.std.proofs.Common.{◌∙◌, append_assoc, arith}
use Rattle.jv_core.specs.declared.program.CoreSlot.{CoreSlot}
use Rattle.use_rules.specs.Elements.{Set}
use Rattle.use_flow.specs.inner.Followed.{Followed}
use Rattle.use_flow.specs.inner.Starting.{param_set, params_from}
use Rattle.use_elements.proofs.Rests.{append_nil}
use Rattle.use_flow.proofs.Turns.{one, last}

pub param_taken : (s : Followed) (ps : List CoreSlot) (i : ℕ) (p : CoreSlot) (done done' total : List Set) (x : Set) → i < length ps →
    p ≡ get_or ps i p →
    x ≡ param_set s i p.ty → done' ≡ done ++ x ∷ [] → done ++ params_from s i (map (λ p. p.ty) (drop i ps)) ≡ total →
    done' ++ params_from s (i + 1) (map (λ p. p.ty) (drop (i + 1) ps)) ≡ total
param_taken s ps i p done done' total x lt at ex ed h =
    one (λ k (xs : List CoreSlot). params_from s k (map (λ p. p.ty) xs)) (λ k (p : CoreSlot). param_set s k p.ty ∷ []) (λ k x xs. refl)
    (λ k. refl) i p ps done done' total lt at
    (ed ∙ ap (λ y. done ++ y ∷ []) ex) h

pub params_taken : (s : Followed) (ps : List CoreSlot) (i : ℕ) (done total : List Set) → length ps ≤ i →
    done ++ params_from s i (map (λ p. p.ty) (drop i ps)) ≡ total → done ≡ total
params_taken s ps i done total le h =
    last (λ k (xs : List CoreSlot). params_from s k (map (λ p. p.ty) xs)) (λ k (p : CoreSlot). param_set s k p.ty ∷ []) (λ k x xs. refl)
    (λ k. refl) i ps done total le h

pub ruleset params = (param_taken, params_taken)

abbrev empty : Set
empty = []

-- so many empty sets, one after another
pub empty_next : (i j : ℕ) (now now' total : List Set) (x : Set) → i < j → x ≡ [] → now' ≡ now ++ x ∷ [] →
    now ++ replicate (j - i) [] ≡ total → now' ++ replicate (j - (i + 1)) [] ≡ total
empty_next i j now now' total x lt ex en h =
    ap (λ y. y ++ replicate (j - (i + 1)) empty) (en ∙ ap (λ y. now ++ y ∷ []) ex)
    ∙ append_assoc now (empty ∷ []) (replicate (j - (i + 1)) empty)
    ∙ (let k : suc (j - (i + 1)) ≡ j - i = omega (arith, lt) in ap (λ n. now ++ replicate n empty) k) ∙ h

pub empty_last : (i j : ℕ) (now total : List Set) → j ≤ i → now ++ replicate (j - i) [] ≡ total → now ≡ total
empty_last i j now total le h =
    sym ((let k : j - i ≡ zero = omega (arith, le) in ap (λ n. now ++ replicate n empty) k) ∙ append_nil now) ∙ h
