-- The names of what a typestate offers.
use Rattle.std.proofs.Common.{◌≡◌, List, [], ◌∷◌, ◌++◌, map, Some, Bool, true, false, ◌||◌, cond, refl, sym, ap, ◌∙◌, true≢false}
use Rattle.std.specs.List.{list_any}
use Rattle.std.specs.Str.{bytes_eq}
use Rattle.std.proofs.lemmas.Slice.Eq.{bytes_eq-Decides}
use Rattle.mg_text.specs.Call.{Name}
use Rattle.mg_text.specs.Interned.{with_text}
use Rattle.ts_tree.specs.Typestate.{Method, Typestate}
use Rattle.jv_rules.specs.Program.{offers_in}
use Rattle.jv_types.specs.inner.Blaming.{is_in, noted}
use Rattle.jv_types.specs.inner.Entries.{OffersAll}
use Rattle.jv_types.proofs.Finding.{any_at, bytes_eq_flip}

pub any_push : (p : Name → Bool) (xs : List Name) (x : Name) → list_any p (xs ++ x ∷ []) ≡ (list_any p xs || p x)
any_push p [] x = go (p x)
  where
    go : (b : Bool) → (b || false) ≡ b
    go true = refl
    go false = refl
any_push p (y ∷ xs) x = ap (λ b. p y || b) (any_push p xs x) ∙ go (p y) (list_any p xs) (p x)
  where
    go : (a b c : Bool) → (a || (b || c)) ≡ ((a || b) || c)
    go true b c = refl
    go false b c = refl

pub or_or : (a b c : Bool) → ((a || b) || c) ≡ (a || (b || c))
or_or true b c = refl
or_or false b c = refl

absorbed : (a b : Bool) → (b ≡ true → a ≡ true) → (a || b) ≡ a
absorbed true b h = refl
absorbed false true h = absurd (true≢false (sym (h refl)))
absorbed false false h = refl

-- a name that stands there already changes nothing
pub any_with : (n : Name) (met : List Name) (x : Name) → list_any (bytes_eq n) (with_text met x) ≡
    (list_any (bytes_eq n) met || bytes_eq n x)
any_with n met x = go (is_in met x) refl
  where
    go : (b : Bool) → is_in met x ≡ b → list_any (bytes_eq n) (cond b met (met ++ x ∷ [])) ≡ (list_any (bytes_eq n) met || bytes_eq n x)
    go true e = sym (absorbed (list_any (bytes_eq n) met) (bytes_eq n x)
        (λ h. ap (λ y. list_any (bytes_eq y) met) ((bytes_eq-Decides n x).0 h) ∙ (sym (any_at x met) ∙ e)))
    go false e = any_push (bytes_eq n) met x

pub any_noted : (n : Name) (met xs : List Name) → list_any (bytes_eq n) (noted met xs) ≡ (list_any (bytes_eq n) met || list_any (bytes_eq n)
    xs)
any_noted n met [] = go (list_any (bytes_eq n) met)
  where
    go : (b : Bool) → b ≡ (b || false)
    go true = refl
    go false = refl
any_noted n met (x ∷ xs) =
    any_noted n (with_text met x) xs ∙ ap (λ b. b || list_any (bytes_eq n) xs) (any_with n met x) ∙ or_or (list_any (bytes_eq n) met)
    (bytes_eq n x) (list_any (bytes_eq n) xs)

any_names : (n : Name) (ms : List Method) → list_any (bytes_eq n) (map (λ m. m.name) ms) ≡ list_any (λ m. bytes_eq m.name n) ms
any_names n [] = refl
any_names n (m ∷ ms) = ap (λ b. b || list_any (bytes_eq n) (map (λ m. m.name) ms)) (bytes_eq_flip n m.name) ∙
    ap (λ b. bytes_eq m.name n || b) (any_names n ms)

-- the table of the names of all methods of a typestate
pub offers_all : (t : Typestate) (names : List Name) (ds : List Method) → ds ≡ offers_in t.states → names ≡ noted [] (map (λ m. m.name) ds)
    → OffersAll (Some t) names
offers_all t names ds same is = record {
  each = λ n. ap (list_any (bytes_eq n)) (is ∙ ap (λ xs. noted [] (map (λ m. m.name) xs)) same) ∙
      any_noted n [] (map (λ m. m.name) (offers_in t.states)) ∙ any_names n (offers_in t.states);
}
