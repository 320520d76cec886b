-- The names of classes, and the whole.
use Rattle.std.proofs.Common.{◌≡◌, ℕ, ◌+◌, ◌<◌, Bool, true, false, ◌||◌, List, [], ◌∷◌, ◌++◌, length, map, take, drop, get_or, position}
use Rattle.std.proofs.Common.{Option, Some, None, nat_lt, if◌then◌else◌, refl, sym, ap, ◌∙◌, arith, add-one}
use Rattle.std.proofs.lemmas.Bool.Decides.{nat_tests}
use Rattle.std.proofs.lemmas.List.{take_more, map-append}
use Rattle.std.specs.List.{list_any, flat_map}
use Rattle.std.specs.Str.{bytes_eq}
use Rattle.std.proofs.Math.Seq.{drop-cons}
use Rattle.mg_text.proofs.Numbered.{list_any-position, list_any-from_None}
use Rattle.mg_text.specs.Interned.{with_text}
use Rattle.mg_text.specs.Call.{Name}
use Rattle.cls_tree.specs.Tree.{Class as File}
use Rattle.vm_model.specs.Linked.{is_built_in}
use Rattle.vm_model.specs.Program.{Program}
use Rattle.vm_model.specs.Links.{Flaw, DuplicateClass, UnknownClass, UnknownMember, BadDescriptor, NoCode, number_of, lower, least}
use Rattle.vm_model.specs.Links.{duplicates, outlines, class_flaws, linked_class, Links, Outline}
use Rattle.vm_load.specs.declared.fault.LoadFault.{LoadFault}
use Rattle.vm_load.specs.declared.fault.LoadFault.TheVariants as faults
use Rattle.vm_load.specs.Faults.{IsFlaw, IsLeast, flaw_of}
use Rattle.vm_load.specs.Outlines.{is_taken}

some_any : {X : Type 0} (p : X → Bool) (xs : List X) (n : ℕ) → position p xs ≡ Some n → list_any p xs ≡ true
some_any p xs n e = let any = list_any-position p xs in grind (arith, nat_tests)

none_any : {X : Type 0} (p : X → Bool) (xs : List X) → list_any p xs ≡ false → position p xs ≡ None
none_any p xs h = let any = list_any-position p xs in grind (arith, nat_tests)

or_true : (a b : Bool) → b ≡ true → (a || b) ≡ true
or_true true b h = refl
or_true false b h = h

or_false : (a b : Bool) → b ≡ false → (a || b) ≡ a
or_false true b h = refl
or_false false b h = h

second_false : (a b : Bool) → (a || b) ≡ false → b ≡ false
second_false true b h = absurd cc
second_false false b h = h

pub taken : (names : List Name) (name : Name) (n : ℕ) → Some n ≡ position (bytes_eq name) names → true ≡ is_taken names name
taken names name n e = sym (or_true (is_built_in name) (list_any (bytes_eq name) names) (some_any (bytes_eq name) names n (sym e)))

pub not_taken : (names : List Name) (name : Name) (b : Bool) → None ≡ position (bytes_eq name) names → b ≡ is_built_in name →
    b ≡ is_taken names name
not_taken names name b e h = h ∙ sym (or_false (is_built_in name) (list_any (bytes_eq name) names)
    (list_any-from_None (bytes_eq name) names (sym e)))

-- a name that isn't taken goes last
pub added : (names new : List Name) (name : Name) → is_taken names name ≡ false → new ≡ with_text names name → new ≡ names ++ name ∷ []
added names new name free e =
    let none : position (bytes_eq name) names ≡ None =
    none_any (bytes_eq name) names (second_false (is_built_in name) (list_any (bytes_eq name) names) free) in
    e ∙ with_new names name none
  where
    with_new : (old : List Name) (text : Name) → position (bytes_eq text) old ≡ None → with_text old text ≡ old ++ text ∷ []
    with_new old text h = rw h refl

pub free_next : (before : List Name) (name : Name) (rest : List Name) → is_taken before name ≡ false →
    duplicates before (name ∷ rest) ≡ duplicates (before ++ name ∷ []) rest
free_next before name rest h = rw h refl

first_number : (name : Name) (o : Option Flaw) → lower (Some (DuplicateClass name)) o ≡ Some (DuplicateClass name)
first_number name None = refl
first_number name (Some (DuplicateClass other)) = refl
first_number name (Some (UnknownClass other)) = refl
first_number name (Some (UnknownMember other)) = refl
first_number name (Some (BadDescriptor other)) = refl
first_number name (Some (NoCode other)) = refl

pub taken_first : (before : List Name) (name : Name) (rest : List Name) (more : List Flaw) → is_taken before name ≡ true →
    least (duplicates before (name ∷ rest) ++ more) ≡ Some (DuplicateClass name)
taken_first before name rest more h = rw h (first_number name (least (duplicates (before ++ name ∷ []) rest ++ more)))

pub is_least : (f : LoadFault) (flaw : Flaw) (fs : List Flaw) → IsFlaw f flaw → least fs ≡ Some flaw → IsLeast f fs
is_least (faults.DuplicateClass name) flaw fs h e = e ∙ sym h
is_least (faults.UnknownClass name) flaw fs h e = e ∙ sym h
is_least (faults.UnknownMember name) flaw fs h e = e ∙ sym h
is_least (faults.BadDescriptor name) flaw fs h e = e ∙ sym h
is_least (faults.NoCode name) flaw fs h e = e ∙ sym h
is_least faults.Memory flaw fs h e = tt

pub least_by : (f : LoadFault) (fs : List Flaw) → flaw_of f ≡ least fs → IsLeast f fs
least_by (faults.DuplicateClass name) fs e = sym e
least_by (faults.UnknownClass name) fs e = sym e
least_by (faults.UnknownMember name) fs e = sym e
least_by (faults.BadDescriptor name) fs e = sym e
least_by (faults.NoCode name) fs e = sym e
least_by faults.Memory fs e = tt

lower_some : (f : Flaw) (o : Option Flaw) → lower (Some f) o ≡ None → ⊥
lower_some f None e = absurd cc
lower_some f (Some g) e = go (nat_lt (number_of g) (number_of f)) e
  where
    go : (b : Bool) → (if b then Some g else Some f) ≡ None → ⊥
    go true h = absurd cc
    go false h = absurd cc

none_wrong : (fs : List Flaw) → None ≡ least fs → fs ≡ []
none_wrong [] e = refl
none_wrong (f ∷ fs) e = absurd (lower_some f (least fs) (sym e))

-- the names of classes that are cut at a place
module _ {X : Type 0} (name_of : X → Name) (xs : List X) (k : ℕ) (d : X) (lt : k < length xs) where
  pub names_cut : map name_of (drop k xs) ≡ name_of (get_or xs k d) ∷ map name_of (drop (k + 1) xs)
  names_cut = ap (map name_of) (drop-cons xs k d lt) ∙ ap (λ n. name_of (get_or xs k d) ∷ map name_of (drop n xs)) (sym (add-one k))

  pub names_more : map name_of (take (k + 1) xs) ≡ map name_of (take k xs) ++ name_of (get_or xs k d) ∷ []
  names_more = ap (map name_of) (take_more xs k d lt) ∙ map-append name_of (take k xs) (get_or xs k d ∷ [])

pub flat_map-map : {A B C : Type 0} (f : B → List C) (g : A → B) (xs : List A) → flat_map f (map g xs) ≡ flat_map (λ x. f (g x)) xs
flat_map-map f g [] = refl
flat_map-map f g (x ∷ xs) = ap (λ l. f (g x) ++ l) (flat_map-map f g xs)

pub links : (os : List Outline) (cs : List File) (p : Program) → os ≡ outlines cs → duplicates [] (map (λ o. o.name) os) ≡ [] →
    None ≡ least (flat_map (class_flaws os) cs) →
    p ≡ map (linked_class os) cs → Links cs p
links os cs p same distinct none made = record {
  right = ap (λ o. duplicates [] (map (λ x. x.name) o) ++ flat_map (class_flaws o) cs) (sym same)
      ∙ ap (λ l. l ++ flat_map (class_flaws os) cs) distinct ∙ none_wrong (flat_map (class_flaws os) cs) none;
  program = made ∙ ap (λ o. map (linked_class o) cs) same;
}

-- outlines, one after another, by their names
module _ {X : Type 0} (name_of : X → Name) (xs : List X) (k : ℕ) (item : X) (lt : k < length xs) (is : item ≡ get_or xs k item)
    (names : List Name)
    (before : names ≡ map name_of (take k xs)) (distinct : duplicates names (map name_of (drop k xs)) ≡ duplicates [] (map name_of xs))
  where
    cut_here : map name_of (drop k xs) ≡ name_of item ∷ map name_of (drop (k + 1) xs)
    cut_here = names_cut name_of xs k item lt ∙ ap (λ x. name_of x ∷ map name_of (drop (k + 1) xs)) (sym is)

    pub refused_here : (all : List Name) → all ≡ map name_of xs → is_taken names (name_of item) ≡ true → (f : LoadFault) →
        IsFlaw f (DuplicateClass (name_of item)) →
        (more : List Flaw) → IsLeast f (duplicates [] all ++ more)
    refused_here all same free f h more =
        is_least f (DuplicateClass (name_of item)) (duplicates [] all ++ more) h
        (ap (λ l. least (duplicates [] l ++ more)) same ∙ ap (λ l. least (l ++ more)) (sym distinct)
        ∙ ap (λ l. least (duplicates names l ++ more)) cut_here ∙ taken_first names (name_of item) (map name_of (drop (k + 1) xs)) more
        free)

    pub names_on : (new : List Name) → is_taken names (name_of item) ≡ false → new ≡ with_text names (name_of item) →
        new ≡ map name_of (take (k + 1) xs)
    names_on new free e =
        added names new (name_of item) free e ∙ ap (λ l. l ++ name_of item ∷ []) before ∙
        ap (λ x. map name_of (take k xs) ++ name_of x ∷ [])
        is ∙ sym (names_more name_of xs k item lt)

    pub distinct_on : (new : List Name) → is_taken names (name_of item) ≡ false → new ≡ with_text names (name_of item) →
        duplicates new (map name_of (drop (k + 1) xs)) ≡ duplicates [] (map name_of xs)
    distinct_on new free e =
        ap (λ l. duplicates l (map name_of (drop (k + 1) xs))) (added names new (name_of item) free e)
        ∙ sym (free_next names (name_of item) (map name_of (drop (k + 1) xs)) free) ∙ ap (duplicates names) (sym cut_here) ∙ distinct
