-- Classes and enums whose names are apart: one name stands at one number.
use Rattle.std.proofs.Common.{◌≡◌, ℕ, zero, suc, Bool, true, false, cond, List, [], ◌∷◌, ◌++◌, map, Some, refl, sym, ap, ◌∙◌, subst}
use Rattle.std.specs.Prelude.{Contains, slice_get, find}
use Rattle.std.proofs.lemmas.Slice.Eq.{bytes_eq-Decides}
use Rattle.std.proofs.lemmas.List.Elements.{Contains-append_left}
use Rattle.std.specs.Str.{bytes_eq}
use Rattle.mg_text.specs.Call.{Name}
use Rattle.ts_tree.specs.Proper.{AreDistinct}
use Rattle.jv_tree.specs.Source
use Rattle.jv_meaning.specs.Program.{classes_of, class_named}
use Rattle.jv_rules.specs.Program.{Program}
use Rattle.jv_core.specs.Tree as Core
use Rattle.jv_core.specs.Lookup.{text_at}
use Rattle.jv_core.specs.Members.{type_names}
use Rattle.jv_rules.proofs.Tests.{in_first, in_later}
use Rattle.jv_names.specs.Resolves.{IsClass, IsEnum, Resolves}
use Rattle.jv_names.proofs.Tables.{some_is, none_some, aligned_at, text_is, class_name, enum_name}

pub distinct_left : (xs ys : List Name) → AreDistinct (xs ++ ys) → AreDistinct xs
distinct_left [] ys h = tt
distinct_left (x ∷ xs) ys h = ((λ c. h.0 (Contains-append_left xs ys x c)), distinct_left xs ys h.1)

pub distinct_right : (xs ys : List Name) → AreDistinct (xs ++ ys) → AreDistinct ys
distinct_right [] ys h = h
distinct_right (x ∷ xs) ys h = distinct_right xs ys h.1

stands : {A : Type 0} (f : A → Name) (xs : List A) (i : ℕ) (a : A) → slice_get xs i ≡ Some a → Contains (map f xs) (f a)
stands f [] i a e = absurd (none_some e)
stands f (x ∷ xs) zero a e = subst (λ z. Contains (f x ∷ map f xs) (f z)) (some_is e) (in_first (map f xs) (f x))
stands f (x ∷ xs) (suc i) a e = in_later (map f xs) (f x) (f a) (stands f xs i a e)

-- Where names are apart, one name stands once.
pub stands_once : {A : Type 0} (f : A → Name) (xs : List A) (i j : ℕ) (a b : A) → AreDistinct (map f xs) →
    slice_get xs i ≡ Some a → slice_get xs j ≡ Some b → f a ≡ f b → i ≡ j
stands_once f [] i j a b h e g same = absurd (none_some e)
stands_once f (x ∷ xs) zero zero a b h e g same = refl
stands_once f (x ∷ xs) zero (suc j) a b h e g same =
    absurd (h.0 (subst (Contains (map f xs)) (sym same ∙ ap f (sym (some_is e))) (stands f xs j b g)))
stands_once f (x ∷ xs) (suc i) zero a b h e g same =
    absurd (h.0 (subst (Contains (map f xs)) (same ∙ ap f (sym (some_is g))) (stands f xs i a e)))
stands_once f (x ∷ xs) (suc i) (suc j) a b h e g same = ap suc (stands_once f xs i j a b h.1 e g same)

-- what a search finds, and where
pub record Found {A : Type 0} (test : A → Bool) (xs : List A) : Type 0 where
  pub item : A
  pub number : ℕ
  pub is : find test xs ≡ Some item
  pub at : slice_get xs number ≡ Some item

-- a search finds something, where something passes its test
pub finds : {A : Type 0} (test : A → Bool) (xs : List A) (i : ℕ) (a : A) → slice_get xs i ≡ Some a → test a ≡ true → Found test xs
finds test [] i a e t = absurd (none_some e)
finds {A} test (x ∷ xs) i a e t = go (test x) refl (λ i e. finds test xs i a e t) i e
  where
    here : test x ≡ true → Found test (x ∷ xs)
    here p = record { item = x; number = zero; is = ap (λ t. cond t (Some x) (find test xs)) p; at = refl }

    go : (b : Bool) → test x ≡ b → ((i : ℕ) → slice_get xs i ≡ Some a → Found test xs) → (i : ℕ) → slice_get (x ∷ xs) i ≡ Some a →
        Found test (x ∷ xs)
    go true p later i e = here p
    go false p later zero e = here (ap test (some_is e) ∙ t)
    go false p later (suc i) e =
        let w = later i e in
        record { item = w.item; number = suc w.number; is = ap (λ t. cond t (Some x) (find test xs)) p ∙ w.is; at = w.at }

module _ (program : Program) (core : Core.Program) (res : Resolves program core) (apart : AreDistinct (type_names core)) where
  classes_apart : AreDistinct (map (λ c. text_at core c.name) core.classes)
  classes_apart = distinct_left (map (λ c. text_at core c.name) core.classes) (map (λ e. text_at core e.name) core.enums) apart

  enums_apart : AreDistinct (map (λ e. text_at core e.name) core.enums)
  enums_apart = distinct_right (map (λ c. text_at core c.name) core.classes) (map (λ e. text_at core e.name) core.enums) apart

  -- classes of one name have one number
  pub one_number : (c d : ℕ) (k l : Source.Class) → slice_get (classes_of program.files) c ≡ Some k → slice_get (classes_of program.files) d
      ≡ Some l →
      k.name ≡ l.name → c ≡ d
  one_number c d k l e g same =
      let m = aligned_at res.classes c k e in
      let n = aligned_at res.classes d l g in
      stands_once (λ (c : Core.Class). text_at core c.name) core.classes c d m.item n.item classes_apart m.at n.at
      (text_is program core res m.item.name k.name m.is.name ∙ same ∙ sym (text_is program core res n.item.name l.name n.is.name))

  pub one_class : (name : Name) (c d : ℕ) → IsClass program core name c → IsClass program core name d → c ≡ d
  one_class name c d i j =
      one_number c d i.class j.class i.at j.at
      (class_name program.files name i.class i.named ∙ sym (class_name program.files name j.class j.named))

  pub one_enum : (name : Name) (c d : ℕ) (k l : Source.Enum) → IsEnum program core name c k → IsEnum program core name d l → c ≡ d
  one_enum name c d k l i j =
      let m = aligned_at res.enums c k i.at in
      let n = aligned_at res.enums d l j.at in
      stands_once (λ (e : Core.Enum). text_at core e.name) core.enums c d m.item n.item enums_apart m.at n.at
      (text_is program core res m.item.name k.name m.is.name
      ∙ (enum_name program.files name k i.named ∙ sym (enum_name program.files name l j.named))
      ∙ sym (text_is program core res n.item.name l.name n.is.name))

  -- a class is the one of its name
  pub is_named : (c : ℕ) (k : Source.Class) → slice_get (classes_of program.files) c ≡ Some k → class_named program.files k.name ≡ Some k
  is_named c k e =
      let w = finds (λ (c : Source.Class). bytes_eq c.name k.name) (classes_of program.files) c k e
      ((bytes_eq-Decides k.name k.name).1 refl) in
      let same = one_number w.number c w.item k w.at e (class_name program.files k.name w.item w.is) in
      w.is ∙ (sym w.at ∙ ap (slice_get (classes_of program.files)) same ∙ e)
