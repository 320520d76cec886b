-- What lists of names, protocols and headers have.
use Rattle.std.proofs.Common.{◌≡◌, ℕ, Bool, true, false, true≢false, List, [], ◌∷◌, length, Option, Some, None}
use Rattle.std.proofs.Common.{refl, sym, ap, ◌∙◌}
use Rattle.std.proofs.Common.{subst, Contains, ⊎_elim, eqb, arith}
use Rattle.std.specs.Prelude.{cond, find, unwrap_or}
use Rattle.std.specs.List.{list_any}
use Rattle.std.specs.Str.{bytes_eq}
use Rattle.std.proofs.lemmas.Bool.{eqb-true, eq-eqb}
use Rattle.std.proofs.lemmas.Slice.Eq.{bytes_eq-Decides}
use Rattle.mg_text.specs.Call.{Name}
use Rattle.mg_text.specs.declared.place.Place.{Place}
use Rattle.scr_tree.specs.Tree.{LocalTree, Statements}
use Rattle.scr_back.specs.Same.{AreSame}
use Rattle.scr_same.specs.inner.Alike.{is_alike}
use Rattle.scr_same.proofs.Decided.{true_same, same_true}
use Rattle.jv_rules.proofs.Tests.{nothing_in, in_cases, in_first, in_later, any_decides}
use Rattle.jv_names.proofs.Declared.{of_map}
use Rattle.jv_names.proofs.Tables.{some_is, none_some, found_passes}
use Rattle.mg_sources.specs.Files.{Source}
use Rattle.mg_sources.specs.Reading.{Part, Protocol, States, Classes, Reads, EachSpells}
use Rattle.mg_fits.specs.Parts.{Headed, header, protocols_in, roles_in, own_local}

-- what isn't absent stands in a list of names
pub surely_in : (xs : List Name) (x : Name) → ((Contains xs x → ⊥) → ⊥) → Contains xs x
surely_in xs x n = go (list_any (λ y. bytes_eq y x) xs) refl
  where
    go : (b : Bool) → list_any (λ y. bytes_eq y x) xs ≡ b → Contains xs x
    go true e = (any_decides (λ y. bytes_eq y x) x (λ y. bytes_eq-Decides y x) xs).0 e
    go false e = absurd (n (λ c. true≢false (sym ((any_decides (λ y. bytes_eq y x) x (λ y. bytes_eq-Decides y x) xs).1 c) ∙ e)))

-- statements that don't differ are the same
pub surely_same : (s t : Statements) → ((AreSame s t → ⊥) → ⊥) → AreSame s t
surely_same s t n = go (is_alike s t) refl
  where
    go : (b : Bool) → is_alike s t ≡ b → AreSame s t
    go true e = true_same s t e
    go false e = absurd (n (λ h. true≢false (sym (same_true s t h) ∙ e)))

-- numbers that don't differ are the same
pub surely_equal : (m n : ℕ) → ((m ≡ n → ⊥) → ⊥) → m ≡ n
surely_equal m n h = go (eqb m n) refl
  where
    go : (b : Bool) → eqb m n ≡ b → m ≡ n
    go true e = eqb-true m n e
    go false e = absurd (h (λ f. true≢false (sym (eq-eqb m n f) ∙ e)))

-- each role of a header has its place
pub headed : (roles : List Name) (places : List Place) → length places ≡ length roles → (me : Name) → Contains roles me →
    (h : Headed) × Contains (header roles places) h × (h.role ≡ me)
headed [] places e me has = absurd (nothing_in me has)
headed (role ∷ roles) [] e me has = absurd (omega (arith, e))
headed (role ∷ roles) (place ∷ places) e me has =
    ⊎_elim
    (λ same. (record { role = role; place = place }, in_first (header roles places) (record { role = role; place = place }), same))
    (λ more. let w = headed roles places (omega (arith, e)) me more in
    (w.0, in_later (header roles places) (record { role = role; place = place }) w.0 w.1, w.2)) (in_cases roles role me has)

-- ---- protocols of files

-- each is what a file spells
pub read_in : (files : List Source) (parts : List Part) → EachSpells files parts → (local : LocalTree) →
    Contains (protocols_in parts) local →
    (source : Source) × Contains files source × Reads source (Protocol local)
read_in [] [] h local has = absurd (nothing_in local has)
read_in [] (part ∷ parts) h local has = absurd h
read_in (source ∷ files) [] h local has = absurd h
read_in (source ∷ files) (Protocol one ∷ parts) h local has =
    ⊎_elim (λ same. (source, in_first files source, subst (λ l. Reads source (Protocol l)) same h.0))
    (λ more. let w = read_in files parts h.1 local more in (w.0, in_later files source w.0 w.1, w.2))
    (in_cases (protocols_in parts) one local has)
read_in (source ∷ files) (States typestate ∷ parts) h local has =
    let w = read_in files parts h.1 local has in (w.0, in_later files source w.0 w.1, w.2)
read_in (source ∷ files) (Classes file ∷ parts) h local has =
    let w = read_in files parts h.1 local has in (w.0, in_later files source w.0 w.1, w.2)

-- what a search finds stands in the list
found_in : {A : Type 0} (test : A → Bool) (xs : List A) (x : A) → find test xs ≡ Some x → Contains xs x
found_in test [] x e = absurd (none_some e)
found_in {A} test (y ∷ xs) x e = go (test y) e (found_in test xs x)
  where
    go : (b : Bool) → cond b (Some y) (find test xs) ≡ Some x → (find test xs ≡ Some x → Contains xs x) → Contains (y ∷ xs) x
    go true e more = subst (Contains (y ∷ xs)) (some_is e) (in_first xs y)
    go false e more = in_later xs y x (more e)

-- where it finds nothing, nothing passes
none_passes : {A : Type 0} (test : A → Bool) (xs : List A) → find test xs ≡ None → (x : A) → Contains xs x → test x ≡ true → ⊥
none_passes test [] e x has p = nothing_in x has
none_passes {A} test (y ∷ xs) e x has p = go (test y) refl e (none_passes test xs)
  where
    go : (b : Bool) → test y ≡ b → cond b (Some y) (find test xs) ≡ None →
        (find test xs ≡ None → (x : A) → Contains xs x → test x ≡ true → ⊥) → ⊥
    go true f e more = none_some (sym e)
    go false f e more =
        ⊎_elim (λ same. true≢false (sym p ∙ ap test (sym same) ∙ f)) (λ later. more e x later p) (in_cases xs y x has)

-- the protocol of a role of which the files have one
pub record Has (parts : List Part) (otherwise : Name → LocalTree) (me : Name) : Type 0 where
  pub there : Contains (protocols_in parts) (own_local parts otherwise me)
  pub own : (own_local parts otherwise me).me ≡ me

pub has_own : (parts : List Part) (otherwise : Name → LocalTree) (me : Name) → Contains (roles_in parts) me → Has parts otherwise me
has_own parts otherwise me has = go (find (λ (local : LocalTree). bytes_eq local.me me) (protocols_in parts)) refl
  where
    go : (o : Option LocalTree) → find (λ (local : LocalTree). bytes_eq local.me me) (protocols_in parts) ≡ o → Has parts otherwise me
    go None e =
        let w = of_map (λ (local : LocalTree). local.me) (protocols_in parts) me has in
        absurd (none_passes (λ (local : LocalTree). bytes_eq local.me me) (protocols_in parts) e w.0 w.1
        ((bytes_eq-Decides w.0.me me).1 w.2))
    go (Some local) e =
        let same : local ≡ own_local parts otherwise me = ap (λ o. unwrap_or o (otherwise me)) (sym e) in
        subst (λ (l : LocalTree). Contains (protocols_in parts) l × (l.me ≡ me) → Has parts otherwise me) (sym same)
        (λ k. record { there = k.0; own = k.1 }) (
          found_in (λ (l : LocalTree). bytes_eq l.me me) (protocols_in parts) local e,
          (bytes_eq-Decides local.me me).0 (found_passes (λ (l : LocalTree). bytes_eq l.me me) (protocols_in parts) local e),
        )
