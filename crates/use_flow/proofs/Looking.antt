-- What is met where a method is called on an element.
use Rattle.std.proofs.Common.{◌≡◌, ◌≢◌, ℕ, zero, suc, ◌-◌, ◌<◌, ◌≤◌, List, [], ◌∷◌, ◌++◌, map, Some, None, sym, refl, ap, ◌∙◌, arith}
use Rattle.mg_text.specs.Call.{Name}
use Rattle.mg_text.specs.declared.place.Place.{Place}
use Rattle.ts_tree.specs.declared.parts.To.{To}
use Rattle.ts_tree.specs.Typestate.{Target, Typestate}
use Rattle.use_rules.specs.declared.demand.Demand.{Demand}
use Rattle.use_rules.specs.declared.demand.DemandKind.{DemandKind}
use Rattle.use_rules.specs.declared.demand.DemandKind.TheVariants as demands
use Rattle.use_rules.specs.Elements.{Set, marked, element_of, along, leads_by, target_at, unless_called, unless_offered}
use Rattle.use_elements.specs.Mappings.{blamed}
use Rattle.use_elements.proofs.Rests.{append_nil, image_start, image_turn, image_end, judged_start, judged_turn, judged_end}
use Rattle.use_flow.specs.inner.Calling.{offers_one}
use Rattle.use_flow.proofs.Seeking.{along_low, along_high, low_offers, none_offers, some_offers}
use Rattle.use_flow.proofs.Seeking.{offering_start, offering_turn, offering_end}

-- What is no state.

pub null_asked : (e : ℕ) → e ≡ 0 → (t : Typestate) (m : Name) → Some demands.MaybeNull ≡ unless_called t m e
null_asked e h t m = ap (unless_called t m) (sym h)

pub moved_asked : (e : ℕ) → e ≡ 1 → (t : Typestate) (m : Name) → Some demands.UseMoved ≡ unless_called t m e
moved_asked e h t m = ap (unless_called t m) (sym h)

pub end_asked : (e : ℕ) → e < 3 → e ≢ 0 → e ≢ 1 → (t : Typestate) (m : Name) → Some demands.NotOffered ≡ unless_called t m e
end_asked zero h a b t m = absurd (a refl)
end_asked (suc zero) h a b t m = absurd (b refl)
end_asked (suc (suc zero)) h a b t m = refl
end_asked (suc (suc (suc e))) h a b t m = absurd (omega (arith, h))

pub ruleset low = (null_asked, moved_asked, end_asked)

-- The state that offers the method.

pub states_low : (t : Typestate) (m : Name) (e : ℕ) (qs : List ℕ) → e < 3 → qs ≡ qs ++ offers_one t m e
states_low t m e qs l = sym (ap (λ x. qs ++ x) (low_offers t m e l) ∙ append_nil qs)

pub states_none : (t : Typestate) (m : Name) (e : ℕ) (qs : List ℕ) → 3 ≤ e → None ≡ target_at t m (e - 3) → qs ≡ qs ++ offers_one t m e
states_none t m e qs l o = sym (ap (λ x. qs ++ x) (none_offers t m e l (sym o)) ∙ append_nil qs)

pub states_some : (t : Typestate) (m : Name) (e : ℕ) (qs qs' : List ℕ) (x : Target) → 3 ≤ e → Some x ≡ target_at t m (e - 3) →
    qs' ≡ qs ++ (e - 3) ∷ [] → qs' ≡ qs ++ offers_one t m e
states_some t m e qs qs' x l o p = p ∙ ap (λ v. qs ++ v) (sym (some_offers t m e x l (sym o)))

-- Where the call leads.

pub led_low : (which : Target → List To) (t : Typestate) (m : Name) (e : ℕ) (s : Set) → e < 3 → s ≡ marked (along which t m e) s
led_low which t m e s l = ap (λ es. marked es s) (sym (along_low which t m e l))

pub led_none : (which : Target → List To) (t : Typestate) (m : Name) (e : ℕ) (s : Set) → 3 ≤ e → None ≡ target_at t m (e - 3) →
    s ≡ marked (along which t m e) s
led_none which t m e s l o = ap (λ es. marked es s) (ap (leads_by which) o ∙ sym (along_high which t m e l))

pub led_some : (which : Target → List To) (t : Typestate) (m : Name) (e : ℕ) (s s' : Set) (x : Target) → 3 ≤ e →
    Some x ≡ target_at t m (e - 3) → s' ≡ marked (map element_of (which x)) s → s' ≡ marked (along which t m e) s
led_some which t m e s s' x l o p = p ∙ ap (λ es. marked es s) (ap (leads_by which) o ∙ sym (along_high which t m e l))

-- The demand that is failed.

called_high : (t : Typestate) (m : Name) (e : ℕ) → 3 ≤ e → unless_offered (target_at t m (e - 3)) ≡ unless_called t m e
called_high t m zero l = absurd (omega (arith, l))
called_high t m (suc zero) l = absurd (omega (arith, l))
called_high t m (suc (suc zero)) l = absurd (omega (arith, l))
called_high t m (suc (suc (suc q))) l = let k : suc (suc (suc q)) - 3 ≡ q = omega arith in ap (λ n. unless_offered (target_at t m n)) k

module _ (q : Place) (y : ℕ) (x : Name) (c : ℕ) (t : Typestate) (m : Name) (e : ℕ) (ds ds' : List Demand) where
  pub failed_low : (k : DemandKind) → ((t : Typestate) (m : Name) → Some k ≡ unless_called t m e) → ds' ≡ ds ++ blamed q y x c e (Some k) →
      ds' ≡ ds ++ blamed q y x c e (unless_called t m e)
  failed_low k l p = p ∙ ap (λ o. ds ++ blamed q y x c e o) (l t m)

  pub failed_none : 3 ≤ e → None ≡ target_at t m (e - 3) → ds' ≡ ds ++ blamed q y x c e (Some demands.NotOffered) →
      ds' ≡ ds ++ blamed q y x c e (unless_called t m e)
  failed_none l o p = p ∙ ap (λ v. ds ++ blamed q y x c e v) (ap unless_offered o ∙ called_high t m e l)

pub failed_some : (q : Place) (y : ℕ) (x : Name) (c : ℕ) (t : Typestate) (m : Name) (e : ℕ) (ds : List Demand) (k : Target) → 3 ≤ e →
    Some k ≡ target_at t m (e - 3) → ds ≡ ds ++ blamed q y x c e (unless_called t m e)
failed_some q y x c t m e ds k l o =
    sym (append_nil ds) ∙ ap (λ v. ds ++ blamed q y x c e v) (ap unless_offered o ∙ called_high t m e l)

pub ruleset elements = (
  states_low,
  states_none,
  states_some,
  led_low,
  led_none,
  led_some,
  failed_low,
  failed_none,
  failed_some,
)

-- The loop over the elements of a set.

pub ruleset calls = (
  image_start,
  image_turn,
  image_end,
  judged_start,
  judged_turn,
  judged_end,
  offering_start,
  offering_turn,
  offering_end,
)
