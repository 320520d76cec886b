-- Names that were met, and tables of names that are all new.
use Rattle.std.proofs.Common.{◌≡◌, ⊎_elim, List, [], ◌∷◌, ◌++◌, Bool, true, false, cond, Contains, Decides, refl, sym, ap, subst, ◌∙◌}
use Rattle.std.proofs.Common.{true≢false, append_assoc, append-nil}
use Rattle.std.specs.Str.{bytes_eq}
use Rattle.std.proofs.lemmas.List.Elements.{Contains-push, Contains-push_cases, Contains-append_left}
use Rattle.std.proofs.lemmas.Slice.Eq.{bytes_eq-Decides}
use Rattle.mg_text.specs.Call.{Name}
use Rattle.jv_rules.proofs.Tests.{any_decides, decides_as}
use Rattle.jv_types.specs.inner.Blaming.{is_in, noted, are_new}
use Rattle.jv_types.proofs.Finding.{any_at}

pub in-Decides : (met : List Name) (n : Name) → Decides (is_in met n) (Contains met n)
in-Decides met n =
    subst (λ b. Decides b (Contains met n)) (sym (any_at n met))
    (any_decides (bytes_eq n) n (λ y. decides_as (bytes_eq n y) (bytes_eq-Decides n y) (λ e. sym e) (λ e. sym e)) met)

-- what is new behind names is new behind fewer
abbrev pub Within : List Name → List Name → Type 0
Within sub met = (n : Name) → Contains sub n → Contains met n

pub within_past : (sub met : List Name) (n : Name) → Within sub met → Within sub (met ++ n ∷ [])
within_past sub met n w k h = Contains-append_left met (n ∷ []) k (w k h)

pub within_more : (sub met : List Name) (n : Name) → Within sub met → Within (sub ++ n ∷ []) (met ++ n ∷ [])
within_more sub met n w k h =
    ⊎_elim (λ a. Contains-append_left met (n ∷ []) k (w k a)) (λ e. subst (Contains (met ++ n ∷ [])) e (Contains-push met n))
    (Contains-push_cases sub n k h)

-- the first of these is new, and so are the others behind it
pub new_split : (met ns : List Name) (n : Name) → are_new met (n ∷ ns) ≡ true → (is_in met n ≡ false) × (are_new (met ++ n ∷ []) ns ≡ true)
new_split met ns n e = go (is_in met n) refl e
  where
    go : (b : Bool) → is_in met n ≡ b → cond b false (are_new (met ++ n ∷ []) ns) ≡ true → (is_in met n ≡ false)
        × (are_new (met ++ n ∷ []) ns ≡ true)
    go true h k = absurd (true≢false (sym k))
    go false h k = (h, k)

pub new_join : (met ns : List Name) (n : Name) → is_in met n ≡ false → are_new (met ++ n ∷ []) ns ≡ true → are_new met (n ∷ ns) ≡ true
new_join met ns n e h = ap (λ b. cond b false (are_new (met ++ n ∷ []) ns)) e ∙ h

-- some of these names, in their order
pub data Some_of : List Name → List Name → Type 0 where
  nothing : Some_of [] []
  past : {sub ns : List Name} {n : Name} → Some_of sub ns → Some_of sub (n ∷ ns)
  kept : {sub ns : List Name} {n : Name} → Some_of sub ns → Some_of (n ∷ sub) (n ∷ ns)

pub not_in : (sub met : List Name) (n : Name) → Within sub met → is_in met n ≡ false → is_in sub n ≡ false
not_in sub met n w e = go (is_in sub n) refl
  where
    go : (b : Bool) → is_in sub n ≡ b → is_in sub n ≡ false
    go true h = absurd (true≢false (sym ((in-Decides met n).1 (w n ((in-Decides sub n).0 h))) ∙ e))
    go false h = h

pub new_some : {sub ns : List Name} (low met : List Name) → Some_of sub ns → Within low met → are_new met ns ≡ true → are_new low sub ≡ true
new_some low met nothing w e = refl
new_some low met (past {sub = sub} {ns = ns} {n = n} s) w e = new_some low (met ++ n ∷ []) s (within_past low met n w)
    (new_split met ns n e).1
new_some low met (kept {sub = sub} {ns = ns} {n = n} s) w e =
    let h = new_split met ns n e in
    new_join low sub n (not_in low met n w h.0) (new_some (low ++ n ∷ []) (met ++ n ∷ []) s (within_more low met n w) h.1)

-- the table of names that are all new has them in their order
pub new_noted : (met ns : List Name) → are_new met ns ≡ true → noted met ns ≡ met ++ ns
new_noted met [] e = sym (append-nil met)
new_noted met (n ∷ ns) e =
    let h = new_split met ns n e in
    ap (λ b. noted (cond b met (met ++ n ∷ [])) ns) h.0 ∙ new_noted (met ++ n ∷ []) ns h.1 ∙ append_assoc met (n ∷ []) ns
