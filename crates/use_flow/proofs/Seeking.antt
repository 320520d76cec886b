-- What a turn of a loop over methods, branches and elements does.
use Rattle.std.proofs.Common.{◌≡◌, ℕ, zero, suc, ◌+◌, ◌-◌, ◌<◌, ◌≤◌, Bool, true, false, List, [], ◌∷◌, ◌++◌, length, get_or, drop, map}
use Rattle.std.proofs.Common.{Option, Some, None, refl, sym, ap, ◌∙◌, subst, arith, append_assoc}
use Rattle.std.specs.Prelude.{slice_set, if◌then◌else◌}
use Rattle.std.proofs.lemmas.List.{at_drop_more, at_drop_all}
use Rattle.mg_text.specs.Call.{Name}
use Rattle.mg_sets.specs.Sets.{members, members_from}
use Rattle.ts_tree.specs.declared.parts.Branch.{Branch}
use Rattle.ts_tree.specs.declared.parts.To.{To}
use Rattle.ts_tree.specs.Typestate.{Target, Typestate}
use Rattle.ts_tree.proofs.Searches.{by_label-drop, by_label-past, offered_in-drop, offered_in-past}
use Rattle.use_rules.specs.Elements.{Set, marked, element_of, along, leads_by, target_at, states_in}
use Rattle.use_rules.specs.Elements.{offering_from}
use Rattle.use_flow.specs.inner.Calling.{offers_one}
use Rattle.use_elements.proofs.Rests.{append_nil}

-- the branch at i leads to its place, and then those after it
pub marked_branch : (bs : List Branch) (i : ℕ) (b : Branch) (s s' total : Set) → i < length bs → b ≡ get_or bs i b →
    s' ≡ slice_set s (element_of b.to) true →
    marked (map element_of (map (λ b. b.to) (drop i bs))) s ≡ total → marked (map element_of (map (λ b. b.to) (drop (i + 1) bs))) s' ≡ total
marked_branch bs i b s s' total h e m r =
    ap (marked (map element_of (map (λ b. b.to) (drop (i + 1) bs)))) (m ∙ ap (λ (x : Branch). slice_set s (element_of x.to) true) e)
    ∙ sym (at_drop_more (λ (xs : List Branch). marked (map element_of (map (λ b. b.to) xs)) s) bs i b h) ∙ r

pub marked_branches_end : (bs : List Branch) (i : ℕ) (s total : Set) → length bs ≤ i → marked (map element_of (map (λ b. b.to) (drop i bs)))
    s ≡ total → s ≡ total
marked_branches_end bs i s total h r = sym (at_drop_all (λ (xs : List Branch). marked (map element_of (map (λ b. b.to) xs)) s) bs i h) ∙ r

pub ruleset seeking = (by_label-drop, by_label-past, offered_in-drop, offered_in-past, marked_branch, marked_branches_end)

pub along_low : (which : Target → List To) (t : Typestate) (m : Name) (e : ℕ) → e < 3 → along which t m e ≡ []
along_low which t m zero h = refl
along_low which t m (suc zero) h = refl
along_low which t m (suc (suc zero)) h = refl
along_low which t m (suc (suc (suc q))) h = absurd (omega arith)

pub along_high : (which : Target → List To) (t : Typestate) (m : Name) (e : ℕ) → 3 ≤ e →
    along which t m e ≡ leads_by which (target_at t m (e - 3))
along_high which t m zero h = absurd (omega arith)
along_high which t m (suc zero) h = absurd (omega arith)
along_high which t m (suc (suc zero)) h = absurd (omega arith)
along_high which t m (suc (suc (suc q))) h = let k : q ≡ suc (suc (suc q)) - 3 = omega arith in ap (λ n. leads_by which (target_at t m n)) k

pub ruleset alongs = (along_low, along_high)

-- The states that offer a method.

abbrev pub offered_all : Typestate → (method : Name) → List ℕ → List ℕ
offered_all t m [] = []
offered_all t m (e ∷ es) = offers_one t m e ++ offered_all t m es

module _ (t : Typestate) (m : Name) where
  turn_of : (q : ℕ) (s : Set) (o : Option Target) → target_at t m q ≡ o →
      offering_from t m q (true ∷ s) ≡ offers_one t m (suc (suc (suc q))) ++ offering_from t m (suc q) s
  turn_of q s None e =
      let one : offers_one t m (suc (suc (suc q))) ≡ [] = ap (λ o. elim o as (λ _. List ℕ) [ None ↦ [] | Some k ↦ q ∷ [] ]) e in
      rw e (ap (λ xs. xs ++ offering_from t m (suc q) s) (sym one))
  turn_of q s (Some k) e =
      let one : offers_one t m (suc (suc (suc q))) ≡ q ∷ [] = ap (λ o. elim o as (λ _. List ℕ) [ None ↦ [] | Some k ↦ q ∷ [] ]) e in
      rw e (ap (λ xs. xs ++ offering_from t m (suc q) s) (sym one))

  state_turn : (q : ℕ) (s : Set) (rest : List ℕ) (o : Option Target) → target_at t m q ≡ o → offering_from t m (suc q) s ≡ rest →
      offering_from t m q (true ∷ s) ≡ offers_one t m (suc (suc (suc q))) ++ rest
  state_turn q s rest o e r = subst (λ xs. offering_from t m q (true ∷ s) ≡ offers_one t m (suc (suc (suc q))) ++ xs) r (turn_of q s o e)

  offering_members : (q : ℕ) (s : Set) → offering_from t m q s ≡ offered_all t m (members_from (suc (suc (suc q))) s)
  offering_members q [] = refl
  offering_members q (true ∷ s) =
      state_turn q s (offered_all t m (members_from (suc (suc (suc (suc q)))) s)) (target_at t m q) refl (offering_members (suc q) s)
  offering_members q (false ∷ s) = offering_members (suc q) s

  low_skip : (b : Bool) (e : ℕ) (es : List ℕ) → offers_one t m e ≡ [] → offered_all t m (if b then e ∷ es else es) ≡ offered_all t m es
  low_skip true e es h = ap (λ x. x ++ offered_all t m es) h
  low_skip false e es h = refl

  all_members : (s : Set) → offering_from t m 0 (states_in s) ≡ offered_all t m (members s)
  all_members [] = refl
  all_members (a ∷ []) = sym (low_skip a 0 [] refl)
  all_members (a ∷ b ∷ []) = sym (low_skip a 0 (members_from 1 (b ∷ [])) refl ∙ low_skip b 1 [] refl)
  all_members (a ∷ b ∷ c ∷ s) =
      offering_members 0 s
      ∙ sym (low_skip a 0 (members_from 1 (b ∷ c ∷ s)) refl ∙ low_skip b 1 (members_from 2 (c ∷ s)) refl
      ∙ low_skip c 2 (members_from 3 s) refl)

pub low_offers : (t : Typestate) (m : Name) (e : ℕ) → e < 3 → offers_one t m e ≡ []
low_offers t m zero h = refl
low_offers t m (suc zero) h = refl
low_offers t m (suc (suc zero)) h = refl
low_offers t m (suc (suc (suc q))) h = absurd (omega (arith, h))

pub none_offers : (t : Typestate) (m : Name) (e : ℕ) → 3 ≤ e → target_at t m (e - 3) ≡ None → offers_one t m e ≡ []
none_offers t m zero l h = refl
none_offers t m (suc zero) l h = refl
none_offers t m (suc (suc zero)) l h = refl
none_offers t m (suc (suc (suc q))) l h =
    let k : q ≡ suc (suc (suc q)) - 3 = omega arith in
    ap (λ o. elim o as (λ _. List ℕ) [ None ↦ [] | Some t ↦ q ∷ [] ]) (ap (target_at t m) k ∙ h)

pub some_offers : (t : Typestate) (m : Name) (e : ℕ) (x : Target) → 3 ≤ e → target_at t m (e - 3) ≡ Some x → offers_one t m e ≡ (e - 3) ∷ []
some_offers t m zero x l h = absurd (omega (arith, l))
some_offers t m (suc zero) x l h = absurd (omega (arith, l))
some_offers t m (suc (suc zero)) x l h = absurd (omega (arith, l))
some_offers t m (suc (suc (suc q))) x l h =
    let k : q ≡ suc (suc (suc q)) - 3 = omega arith in
    ap (λ o. elim o as (λ _. List ℕ) [ None ↦ [] | Some t ↦ q ∷ [] ]) (ap (target_at t m) k ∙ h) ∙ ap (λ n. n ∷ []) k

pub offering_start : (t : Typestate) (m : Name) (s : Set) (es qs : List ℕ) → es ≡ members s → qs ≡ [] →
    qs ++ offered_all t m es ≡ offering_from t m 0 (states_in s)
offering_start t m s es qs e h = ap (λ x. x ++ offered_all t m es) h ∙ ap (offered_all t m) e ∙ sym (all_members t m s)

pub offering_turn : (t : Typestate) (m : Name) (e : ℕ) (all rest qs qs' total : List ℕ) → all ≡ e ∷ rest → qs' ≡ qs ++ offers_one t m e →
    qs ++ offered_all t m all ≡ total → qs' ++ offered_all t m rest ≡ total
offering_turn t m e all rest qs qs' total a p r =
    ap (λ x. x ++ offered_all t m rest) p ∙ append_assoc qs (offers_one t m e) (offered_all t m rest)
    ∙ ap (λ x. qs ++ offered_all t m x) (sym a) ∙ r

pub offering_end : (t : Typestate) (m : Name) (es qs total : List ℕ) → es ≡ [] → qs ++ offered_all t m es ≡ total → qs ≡ total
offering_end t m es qs total e r = sym (append_nil qs) ∙ ap (λ x. qs ++ offered_all t m x) (sym e) ∙ r
