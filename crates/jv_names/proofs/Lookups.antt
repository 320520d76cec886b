-- Lookups of methods: the first that passes a test in a class is the same in the core and in the source.
use Rattle.std.proofs.Common.{◌≡◌, ℕ, zero, suc, ◌+◌, ◌≤◌, Bool, true, false, cond, List, [], ◌∷◌, ◌++◌, map, Option, Some, None}
use Rattle.std.proofs.Common.{option_map, slice_get, refl, sym, ap, ◌∙◌, subst, arith}
use Rattle.std.specs.Prelude.{find, nat_eq, ◌&&◌}
use Rattle.std.proofs.lemmas.Bool.Decides.{nat_tests}
use Rattle.jv_tree.specs.Source
use Rattle.jv_names.specs.Resolves.{Aligned, none, more, Owned, methods_in, numbered_from}
use Rattle.jv_names.proofs.Tables.{some_is, none_some}

-- both searches find, or neither does
abbrev pub Both : {A B : Type 0} → (A → B → Type 0) → Option A → Option B → Type 0
Both Is None None = Unit {0}
Both Is (Some a) (Some b) = Is a b
Both Is _ _ = ⊥

pub find_aligned : {A B : Type 0} {Is : A → B → Type 0} {xs : List A} {ys : List B} → Aligned Is xs ys → (t : A → Bool) (t' : B → Bool) →
    ((a : A) (b : B) → Is a b → t' b ≡ t a) → Both Is (find t xs) (find t' ys)
find_aligned none t t' h = tt
find_aligned {Is = Is} (more {a = a} {b = b} {as' = xs} {bs = ys} is rest) t t' h =
    subst (λ u. Both Is (cond (t a) (Some a) (find t xs)) (cond u (Some b) (find t' ys))) (sym (h a b is))
    (go (t a) (find_aligned rest t t' h))
  where
    go : (u : Bool) → Both Is (find t xs) (find t' ys) → Both Is (cond u (Some a) (find t xs)) (cond u (Some b) (find t' ys))
    go true later = is
    go false later = later

skipped : (test : Owned → Bool) (g : Source.Method → Owned) (ms : List Source.Method) (rest : List Owned) →
    ((m : Source.Method) → test (g m) ≡ false) →
    find test (map g ms ++ rest) ≡ find test rest
skipped test g [] rest h = refl
skipped test g (m ∷ ms) rest h = ap (λ t. cond t (Some (g m)) (find test (map g ms ++ rest))) (h m) ∙ skipped test g ms rest h

abbrev first_or : (Source.Method → Owned) → Option Source.Method → Option Owned → Option Owned
first_or g None o = o
first_or g (Some m) o = Some (g m)

met : (test : Owned → Bool) (u : Source.Method → Bool) (g : Source.Method → Owned) (ms : List Source.Method) (rest : List Owned) →
    ((m : Source.Method) → test (g m) ≡ u m) →
    find test (map g ms ++ rest) ≡ first_or g (find u ms) (find test rest)
met test u g [] rest h = refl
met test u g (m ∷ ms) rest h = ap (λ t. cond t (Some (g m)) (find test (map g ms ++ rest))) (h m) ∙ go (u m) (met test u g ms rest h)
  where
    go : (t : Bool) → find test (map g ms ++ rest) ≡ first_or g (find u ms) (find test rest) →
        cond t (Some (g m)) (find test (map g ms ++ rest)) ≡ first_or g (cond t (Some m) (find u ms)) (find test rest)
    go true e = refl
    go false e = e

alone : (g : Source.Method → Owned) (o : Option Source.Method) → first_or g o None ≡ option_map g o
alone g None = refl
alone g (Some m) = refl

abbrev pub owned_by : ℕ → Source.Class → Source.Method → Owned
owned_by n k m = record { owner = record { number = n; class = k }; method = m }

-- a method of class number c that passes a test
abbrev pub of_class : ℕ → (Source.Method → Bool) → Owned → Bool
of_class c u o = nat_eq o.owner.number c && u o.method

none_later : (c n : ℕ) (u : Source.Method → Bool) (cs : List Source.Class) → suc c ≤ n → find (of_class c u)
    (methods_in (numbered_from n cs)) ≡ None
none_later c n u [] h = refl
none_later c n u (k ∷ cs) h =
    skipped (of_class c u) (owned_by n k) k.methods (methods_in (numbered_from (suc n) cs)) (λ m. ap (λ t. t && u m) differs)
    ∙ none_later c (suc n) u cs (omega (arith, h))
  where
    differs : nat_eq n c ≡ false
    differs = grind (arith, nat_tests, h)

-- it is the first of the class
pub found_in_class : (c n i : ℕ) (u : Source.Method → Bool) (cs : List Source.Class) (class : Source.Class) →
    slice_get cs i ≡ Some class → c ≡ n + i →
    find (of_class c u) (methods_in (numbered_from n cs)) ≡ option_map (owned_by c class) (find u class.methods)
found_in_class c n i u [] class at e = absurd (none_some at)
found_in_class c n zero u (k ∷ cs) class at e =
    met (of_class c u) u (owned_by n k) k.methods (methods_in (numbered_from (suc n) cs)) (λ m. ap (λ t. t && u m) same)
    ∙ ap (λ rest. first_or (owned_by n k) (find u k.methods) rest) (none_later c (suc n) u cs (omega (arith, e)))
    ∙ alone (owned_by n k) (find u k.methods)
    ∙ ap (λ n. option_map (owned_by n k) (find u k.methods)) number
    ∙ ap (λ (k : Source.Class). option_map (owned_by c k) (find u k.methods)) (some_is at)
  where
    same : nat_eq n c ≡ true
    same = grind (arith, nat_tests, e)

    number : n ≡ c
    number = omega (arith, e)
found_in_class c n (suc i) u (k ∷ cs) class at e =
    skipped (of_class c u) (owned_by n k) k.methods (methods_in (numbered_from (suc n) cs)) (λ m. ap (λ t. t && u m) differs)
    ∙ found_in_class c (suc n) i u cs class at (e ∙ omega arith)
  where
    differs : nat_eq n c ≡ false
    differs = grind (arith, nat_tests, e)
