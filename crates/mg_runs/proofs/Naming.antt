-- Methods and classes by their names.
use Rattle.std.proofs.Common.{◌≡◌, ◌≢◌, ◌↔◌, ◌&&◌, ◌||◌, IsTrue, ℕ, suc, Bool, true, false, List, [], ◌∷◌, map}
use Rattle.std.proofs.Common.{Some, None, nat_eq, refl, sym, ap, ◌∙◌}
use Rattle.std.specs.List.{list_any}
use Rattle.mg_text.specs.Call.{Name}
use Rattle.jv_core.specs.Tree.{Method, Program}
use Rattle.jv_core.specs.Lookup.{is_main, class_numbered}
use Rattle.jv_core.specs.Meaning.{main_in, main_of}
use Rattle.std.specs.Prelude.{option_and_then}

module _ {A B : Type 0} (f : A → B) (p : B → Bool) where
  pub any-map : (xs : List A) → list_any p (map f xs) ≡ list_any (λ x. p (f x)) xs
  any-map [] = refl
  any-map (x ∷ xs) = ap (λ (b : Bool). p (f x) || b) (any-map xs)

-- a `main` of the class of this number
abbrev pub is_main_of : (class : ℕ) → Method → Bool
is_main_of class m = nat_eq m.class class && is_main m.kind

-- a class has a `main` exactly where some method is one of it
pub some_main : (p : Program) (class n : ℕ) (ms : List Method) → list_any (is_main_of class) ms ≡ true → main_in p class n ms ≢ None
some_main p class n [] h = absurd cc
some_main p class n (m ∷ ms) h = go (is_main_of class m) refl (some_main p class (suc n) ms)
  where
    go : (b : Bool) → is_main_of class m ≡ b → (list_any (is_main_of class) ms ≡ true → main_in p class (suc n) ms ≢ None) →
        main_in p class n (m ∷ ms) ≢ None
    go true e rest none = let no = sym (rw e at none) in cc
    go false e rest none = rest (rw e at h) (rw e at none)

pub no_main : (p : Program) (class n : ℕ) (ms : List Method) → list_any (is_main_of class) ms ≡ false → main_in p class n ms ≡ None
no_main p class n [] h = refl
no_main p class n (m ∷ ms) h = go (is_main_of class m) refl (no_main p class (suc n) ms)
  where
    go : (b : Bool) → is_main_of class m ≡ b → (list_any (is_main_of class) ms ≡ false → main_in p class (suc n) ms ≡ None) →
        main_in p class n (m ∷ ms) ≡ None
    go true e rest = absurd (let no = rw e at h in cc)
    go false e rest = rw e (rest (rw e at h))

pub has_main_is : (p : Program) (class : ℕ) (ms : List Method) (b : Bool) → b ≡ list_any (is_main_of class) ms →
    IsTrue b ↔ (main_in p class 0 ms ≢ None)
has_main_is p class ms true h = ((λ _. some_main p class 0 ms (sym h)), (λ _. refl))
has_main_is p class ms false h = ((λ no. absurd (let h = no in cc)), (λ has. absurd (has (no_main p class 0 ms (sym h)))))

-- the class of a name has a `main` where that of its number has one, and where there is no such class there is none
pub main_of_class : (p : Program) (name : Name) (class : ℕ) (b : Bool) → class_numbered p name ≡ Some class →
    IsTrue b ↔ (main_in p class 0 p.methods ≢ None) → IsTrue b ↔ (main_of p name ≢ None)
main_of_class p name class b is h =
    let same : main_of p name ≡ main_in p class 0 p.methods = ap (option_and_then (λ c. main_in p c 0 p.methods)) is in
    ((λ yes none. h.0 yes (sym same ∙ none)), (λ has. h.1 (λ none. has (same ∙ none))))

pub no_class : (p : Program) (name : Name) → class_numbered p name ≡ None → IsTrue false ↔ (main_of p name ≢ None)
no_class p name is =
    let same : main_of p name ≡ None = ap (option_and_then (λ c. main_in p c 0 p.methods)) is in
    ((λ no. absurd (let h = no in cc)), (λ has. absurd (has same)))
