-- Names of a program: none is that of a built-in class, and the classes are found under theirs.
use Rattle.std.proofs.Common.{◌≡◌, ℕ, zero, suc, Bool, true, false, List, [], ◌∷◌, ◌++◌, map}
use Rattle.std.proofs.Common.{get_or, Some, None, Contains, slice_get, position, refl}
use Rattle.std.proofs.Common.{sym, ap, ◌∙◌, subst, arith, codes, append_assoc, map-id}
use Rattle.std.specs.List.{AllByRecursion, list_any}
use Rattle.std.specs.Str.{bytes_eq}
use Rattle.std.proofs.lemmas.Slice.Eq.{bytes_eq-Decides}
use Rattle.std.proofs.lemmas.Bool.Decides.{nat_tests}
use Rattle.std.proofs.lemmas.List.Elements.{Contains-append_left, Contains-append_right, Contains-push}
use Rattle.mg_text.specs.Call.{Name}
use Rattle.ts_tree.specs.Proper.{AreDistinct}
use Rattle.vm_model.specs.Linked.{is_built_in}
use Rattle.vm_model.specs.Links.{Outline, loaded, duplicates}
use Rattle.jv_core.specs.Tree.{Class, Program}
use Rattle.jv_core.specs.Lookup.{text_at}
use Rattle.jv_core.specs.Conditions.{IsCore}
use Rattle.gen_rules.specs.Classes.{Compiled, AreCompiledClasses}
use Rattle.gen_rules.specs.Linked.{outlines_of}
use Rattle.gen_links.specs.Files.{IsPlainName, HasPlainNames}

-- Plain names.

pub plain_at : (names : List Name) → AllByRecursion IsPlainName names → (n : ℕ) → IsPlainName (get_or names n [])
plain_at [] h n = tt
plain_at (x ∷ names) h zero = h.0
plain_at (x ∷ names) h (suc n) = plain_at names h.1 n

pub differ : (a b : Name) → (a ≡ b → ⊥) → bytes_eq a b ≡ false
differ a b h = go (bytes_eq a b) refl
  where
    go : (x : Bool) → bytes_eq a b ≡ x → bytes_eq a b ≡ false
    go false e = e
    go true e = absurd (h ((bytes_eq-Decides a b).0 e))

-- a name that isn't plain
pub other_than : (name other : Name) → IsPlainName name → (IsPlainName other → ⊥) → bytes_eq name other ≡ false
other_than name other h g = differ name other (λ e. g (subst IsPlainName e h))

pub not_object : IsPlainName (codes "java/lang/Object") → ⊥
not_object h = (((((h.1).1).1).1).0).0 refl

pub not_string : IsPlainName (codes "java/lang/String") → ⊥
not_string h = (((((h.1).1).1).1).0).0 refl

pub not_system : IsPlainName (codes "java/lang/System") → ⊥
not_system h = (((((h.1).1).1).1).0).0 refl

pub not_print_stream : IsPlainName (codes "java/io/PrintStream") → ⊥
not_print_stream h = (((((h.1).1).1).1).0).0 refl

pub not_session : IsPlainName (codes "mungo/lib/Session") → ⊥
not_session h = ((((((h.1).1).1).1).1).0).0 refl

pub not_built_in : (name : Name) → IsPlainName name → is_built_in name ≡ false
not_built_in name h =
    rw (
      other_than name (codes "java/lang/Object") h not_object,
      other_than name (codes "java/lang/String") h not_string,
      other_than name (codes "java/lang/System") h not_system,
      other_than name (codes "java/io/PrintStream") h not_print_stream,
      other_than name (codes "mungo/lib/Session") h not_session,
    ) refl

-- Searches.

later : {X : Type 0} (p : X → Bool) (x : X) (xs : List X) (i : ℕ) → p x ≡ false → position p xs ≡ Some i →
    position p (x ∷ xs) ≡ Some (suc i)
later p x xs i h at = rw h (grind (arith, nat_tests))

pub at_once : {X : Type 0} (p : X → Bool) (x : X) (xs : List X) → p x ≡ true → position p (x ∷ xs) ≡ Some 0
at_once p x xs h = rw h (grind (arith, nat_tests))

pub some_is : {A : Type 0} {x y : A} → Some x ≡ Some y → x ≡ y
some_is {A} {x} {y} h = ap (elim [ None ↦ x | Some z ↦ z ]) h

pub in_first : {X : Type 0} (xs : List X) (x : X) → Contains (x ∷ xs) x
in_first xs x = Contains-append_left (x ∷ []) xs x (Contains-push [] x)

stands : {A : Type 0} (f : A → Name) (xs : List A) (i : ℕ) (a : A) → slice_get xs i ≡ Some a → Contains (map f xs) (f a)
stands f [] i a e = absurd cc
stands f (x ∷ xs) zero a e = subst (λ z. Contains (f x ∷ map f xs) (f z)) (some_is e) (in_first (map f xs) (f x))
stands f (x ∷ xs) (suc i) a e = Contains-append_right (f x ∷ []) (map f xs) (f a) (stands f xs i a e)

-- where names are apart, the first that passes a test of names is the one at its number
pub passes_at : {A : Type 0} (f : A → Name) (test : A → Bool) (xs : List A) (i : ℕ) (a : A) → AreDistinct (map f xs) →
    slice_get xs i ≡ Some a → test a ≡ true → ((b : A) → test b ≡ true → f b ≡ f a) → position test xs ≡ Some i
passes_at f test [] i a h e t only = absurd cc
passes_at f test (x ∷ xs) zero a h e t only = at_once test x xs (ap test (some_is e) ∙ t)
passes_at f test (x ∷ xs) (suc i) a h e t only = later test x xs i (go (test x) refl) (passes_at f test xs i a h.1 e t only)
  where
    go : (b : Bool) → test x ≡ b → test x ≡ false
    go false g = g
    go true g = absurd (h.0 (subst (Contains (map f xs)) (sym (only x g)) (stands f xs i a e)))

-- No name stands twice.

absent : (xs : List Name) (y : Name) (ys : List Name) → AreDistinct (xs ++ y ∷ ys) → list_any (bytes_eq y) xs ≡ false
absent [] y ys h = refl
absent (x ∷ xs) y ys h =
    rw (
      differ y x (λ e. h.0 (subst (Contains (xs ++ y ∷ ys)) e (Contains-append_right xs (y ∷ ys) y
          (in_first ys y)))),
      absent xs y ys h.1,
    ) refl

none_twice : (before names : List Name) → AreDistinct (before ++ names) → AllByRecursion IsPlainName names → duplicates before names ≡ []
none_twice before [] h g = refl
none_twice before (name ∷ names) h g =
    let rest = none_twice (before ++ name ∷ []) names (subst AreDistinct (sym (append_assoc before (name ∷ []) names)) h) g.1 in
    rw (not_built_in name g.0, absent before name names h) rest

-- Classes, by their names.

abbrev pub class_texts : Program → List Class → List Name
class_texts p ks = map (λ k. text_at p k.name) ks

pub names_are : (p : Program) (c : ℕ) (ks : List Class) (all : List (List Compiled)) → AreCompiledClasses p c ks all →
    map (λ o. o.name) (outlines_of p ks all) ≡ class_texts p ks
names_are p c [] [] h = refl
names_are p c [] (x ∷ all) h = absurd h
names_are p c (k ∷ ks) [] h = absurd h
names_are p c (k ∷ ks) (x ∷ all) h = ap (λ xs. text_at p k.name ∷ xs) (names_are p (suc c) ks all h.1)

pub distinct_left : (xs ys : List Name) → AreDistinct (xs ++ ys) → AreDistinct xs
distinct_left [] ys h = tt
distinct_left (x ∷ xs) ys h = ((λ c. h.0 (Contains-append_left xs ys x c)), distinct_left xs ys h.1)

plain_texts : (p : Program) → HasPlainNames p → (ks : List Class) → AllByRecursion IsPlainName (class_texts p ks)
plain_texts p h [] = tt
plain_texts p h (k ∷ ks) = (plain_at p.names h k.name, plain_texts p h ks)

pub slice_get-map : {A B : Type 0} (f : A → B) (xs : List A) (i : ℕ) (a : A) → slice_get xs i ≡ Some a →
    slice_get (map f xs) i ≡ Some (f a)
slice_get-map f [] i a e = absurd cc
slice_get-map f (x ∷ xs) zero a e = ap (λ z. Some (f z)) (some_is e)
slice_get-map f (x ∷ xs) (suc i) a e = slice_get-map f xs i a e

module _ (p : Program) (core : IsCore p) (plain : HasPlainNames p) (all : List (List Compiled))
    (compiled : AreCompiledClasses p 0 p.classes all) where
  abbrev pub os : List Outline
  os = outlines_of p p.classes all

  abbrev names : List Name
  names = map (λ o. o.name) os

  names_is : names ≡ class_texts p p.classes
  names_is = names_are p 0 p.classes all compiled

  pub classes_apart : AreDistinct (class_texts p p.classes)
  classes_apart = distinct_left (class_texts p p.classes) (map (λ e. text_at p e.name) p.enums) core.named_apart.types

  pub apart : duplicates [] names ≡ []
  apart = ap (duplicates []) names_is ∙ none_twice [] (class_texts p p.classes) classes_apart (plain_texts p plain p.classes)

  -- a class is found under its name
  pub class_loaded : (c : ℕ) (k : Class) → slice_get p.classes c ≡ Some k → loaded os (text_at p k.name) ≡ Some c
  class_loaded c k at =
      let name = text_at p k.name in
      ap (position (bytes_eq name)) names_is
      ∙ passes_at (λ x. x) (bytes_eq name) (class_texts p p.classes) c name (subst AreDistinct (sym (map-id
      (class_texts p p.classes))) classes_apart)
      (slice_get-map (λ k. text_at p k.name) p.classes c k at) ((bytes_eq-Decides name name).1 refl) (λ b t. sym
      ((bytes_eq-Decides name b).0 t))
