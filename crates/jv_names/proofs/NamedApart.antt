-- The names of classes and enums stand apart, and those of typestates.
use Rattle.std.proofs.Common.{◌≡◌, inl, inr, ⊎_elim, ℕ, List, [], ◌∷◌, ◌++◌, length, map, Contains, flat_map, refl, sym, ap, ◌∙◌, subst}
use Rattle.std.proofs.Common.{arith}
use Rattle.std.proofs.lemmas.List.{append-nil}
use Rattle.std.proofs.lemmas.List.Concat.{flat_map-append}
use Rattle.std.proofs.lemmas.List.Elements.{Contains-append_left, Contains-append_right, Contains-append_cases}
use Rattle.mg_text.specs.Call.{Name}
use Rattle.mg_read.specs.Culprit.{culprit}
use Rattle.mg_read.specs.First.{Clean, behind, with_earlier}
use Rattle.ts_tree.specs.Typestate as protocols
use Rattle.ts_tree.specs.Proper.{AreDistinct}
use Rattle.jv_tree.specs.Source.{Class, Enum, Decl, ClassDecl, EnumDecl}
use Rattle.jv_meaning.specs.Program.{Sources, class_in, enum_in, classes_of, enums_of}
use Rattle.jv_rules.specs.Program.{Program, decls_of}
use Rattle.jv_rules.specs.Members.{OfType, OfTypestate, Entry, decl_entry, typestate_entries, entries}
use Rattle.jv_rules.specs.Declarations.{DuplicateName, built_in_classes}
use Rattle.jv_rules.proofs.Tests.{nothing_in, in_cases, in_first, in_later}
use Rattle.jv_rules.proofs.Positive.{clean_at}
use Rattle.jv_core.specs.Tree as Core
use Rattle.jv_core.specs.Lookup.{text_at}
use Rattle.jv_core.specs.Members.{AreNamedApart, type_names}
use Rattle.jv_names.specs.Resolves.{Aligned, none, more, Resolves}
use Rattle.jv_names.proofs.Tables.{text_is}
use Rattle.jv_names.proofs.Apart.{AreNew, apart_in, names_in, names_in-append}
use Rattle.jv_names.proofs.Declared.{NoFault}

names_new : (qs : List (List Entry × Entry)) → Clean DuplicateName qs → AreNew qs
names_new [] h = tt
names_new (q ∷ qs) h = ((λ taken. h.0 (culprit q.1.place q.1.name) (refl, inl taken)), names_new qs h.1)

abbrev decl_name : Decl → Name
decl_name d = (decl_entry d).name

types_in_decls : (ds : List Decl) → names_in OfType (map decl_entry ds) ≡ map decl_name ds
types_in_decls [] = refl
types_in_decls (ClassDecl c ∷ ds) = ap (λ ns. c.name ∷ ns) (types_in_decls ds)
types_in_decls (EnumDecl e ∷ ds) = ap (λ ns. e.name ∷ ns) (types_in_decls ds)

no_typestates : (ds : List Decl) → names_in OfTypestate (map decl_entry ds) ≡ []
no_typestates [] = refl
no_typestates (ClassDecl c ∷ ds) = no_typestates ds
no_typestates (EnumDecl e ∷ ds) = no_typestates ds

no_types : (ts : List protocols.Typestate) (origins : List ℕ) → names_in OfType (typestate_entries ts origins) ≡ []
no_types [] origins = refl
no_types (t ∷ ts) [] = refl
no_types (t ∷ ts) (o ∷ origins) = no_types ts origins

typestates_in : (ts : List protocols.Typestate) (origins : List ℕ) → length origins ≡ length ts →
    names_in OfTypestate (typestate_entries ts origins) ≡ map (λ t. t.name) ts
typestates_in [] origins e = refl
typestates_in (t ∷ ts) [] e = absurd (omega (arith, e))
typestates_in (t ∷ ts) (o ∷ origins) e = ap (λ ns. t.name ∷ ns) (typestates_in ts origins (omega (arith, e)))

-- Classes, and then enums.

inserted : (xs ys : List Name) (y : Name) → (Contains (xs ++ ys) y → ⊥) → AreDistinct (xs ++ ys) → AreDistinct (xs ++ y ∷ ys)
inserted [] ys y n h = (n, h)
inserted (x ∷ xs) ys y n h = (
  (λ has. ⊎_elim (λ early. h.0 (Contains-append_left xs ys x early))
      (λ late. ⊎_elim (λ same. n (subst (λ z. Contains (z ∷ (xs ++ ys)) y) same (in_first (xs ++ ys) y)))
      (λ more. h.0 (Contains-append_right xs ys x more)) (in_cases ys y x late)) (Contains-append_cases xs (y ∷ ys) x has)),
  inserted xs ys y (λ has. n (in_later (xs ++ ys) x y has)) h.1,
)

abbrev class_names : List Decl → List Name
class_names ds = map (λ c. c.name) (flat_map class_in ds)

abbrev enum_names : List Decl → List Name
enum_names ds = map (λ e. e.name) (flat_map enum_in ds)

among : (ds : List Decl) (name : Name) → Contains (class_names ds ++ enum_names ds) name → Contains (map decl_name ds) name
among [] name has = has
among (ClassDecl c ∷ ds) name has =
    ⊎_elim (λ same. subst (λ n. Contains (n ∷ map decl_name ds) name) (sym same) (in_first (map decl_name ds) name))
    (λ more. in_later (map decl_name ds) c.name name (among ds name more)) (in_cases (class_names ds ++ enum_names ds) c.name name has)
among (EnumDecl e ∷ ds) name has =
    ⊎_elim (λ early. in_later (map decl_name ds) e.name name
    (among ds name (Contains-append_left (class_names ds) (enum_names ds) name early)))
    (λ late. ⊎_elim (λ same. subst (λ n. Contains (n ∷ map decl_name ds) name) (sym same) (in_first (map decl_name ds) name))
    (λ more. in_later (map decl_name ds) e.name name (among ds name (Contains-append_right (class_names ds) (enum_names ds) name more)))
    (in_cases (enum_names ds) e.name name late))
    (Contains-append_cases (class_names ds) (e.name ∷ enum_names ds) name has)

sorted_apart : (ds : List Decl) → AreDistinct (map decl_name ds) → AreDistinct (class_names ds ++ enum_names ds)
sorted_apart [] h = tt
sorted_apart (ClassDecl c ∷ ds) h = ((λ has. h.0 (among ds c.name has)), sorted_apart ds h.1)
sorted_apart (EnumDecl e ∷ ds) h = inserted (class_names ds) (enum_names ds) e.name (λ has. h.0 (among ds e.name has)) (sorted_apart ds h.1)

pub flat_twice : {A : Type 0} (g : Decl → List A) (files : Sources) → flat_map g (flat_map (λ f. f) files) ≡ flat_map (flat_map g) files
flat_twice g [] = refl
flat_twice g (f ∷ files) = flat_map-append g f (flat_map (λ f. f) files) ∙ ap (λ xs. flat_map g f ++ xs) (flat_twice g files)

names_of : (files : Sources) →
    class_names (decls_of files) ++ enum_names (decls_of files)
    ≡ map (λ c. c.name) (classes_of files) ++ map (λ e. e.name) (enums_of files)
names_of files =
    ap (λ cs. map (λ (c : Class). c.name) cs ++ enum_names (decls_of files)) (flat_twice class_in files)
    ∙ ap (λ es. map (λ (c : Class). c.name) (classes_of files) ++ map (λ (e : Enum). e.name) es) (flat_twice enum_in files)

-- each entry, with those before it
earlier_of : {A : Type 0} (seen xs : List A) (x : A) → Contains xs x → (earlier : List A) × Contains (behind seen xs) (earlier, x)
earlier_of seen [] x has = absurd (nothing_in x has)
earlier_of seen (y ∷ xs) x has =
    ⊎_elim
    (λ same. (
      seen,
      subst (λ z. Contains ((seen, z) ∷ behind (seen ++ y ∷ []) xs) (seen, x)) (sym same)
          (in_first (behind (seen ++ y ∷ []) xs) (seen, x)),
    ))
    (λ more. let w = earlier_of (seen ++ y ∷ []) xs x more in (w.0, in_later (behind (seen ++ y ∷ []) xs) (seen, y) (w.0, x) w.1))
    (in_cases xs y x has)

-- an entry of each declared type
entry_of : (ds : List Decl) (name : Name) → Contains (map decl_name ds) name → (e : Entry) × Contains (map decl_entry ds) e
    × (e.sort ≡ OfType) × (e.name ≡ name)
entry_of [] name has = absurd (nothing_in name has)
entry_of (d ∷ ds) name has =
    ⊎_elim (λ same. (decl_entry d, in_first (map decl_entry ds) (decl_entry d), of_type d, same))
    (λ more. let w = entry_of ds name more in (w.0, in_later (map decl_entry ds) (decl_entry d) w.0 w.1, w.2, w.3))
    (in_cases (map decl_name ds) (decl_name d) name has)
  where
    of_type : (d : Decl) → (decl_entry d).sort ≡ OfType
    of_type (ClassDecl c) = refl
    of_type (EnumDecl e) = refl

module _ (program : Program) (origins : List ℕ) (clean : NoFault program origins) where
  pub types_apart : AreDistinct (map (λ c. c.name) (classes_of program.files) ++ map (λ e. e.name) (enums_of program.files))
  types_apart =
      let ds = decls_of program.files in
      let ts = typestate_entries program.typestates origins in
      let names : names_in OfType (entries program origins) ≡ map decl_name ds =
      names_in-append OfType (map decl_entry ds) ts
      ∙ ap (λ ns. names_in OfType (map decl_entry ds) ++ ns) (no_types program.typestates origins)
      ∙ append-nil (names_in OfType (map decl_entry ds))
      ∙ types_in_decls ds in
      subst AreDistinct (names_of program.files)
      (sorted_apart ds (subst AreDistinct names (apart_in OfType [] (entries program origins) (names_new _ clean.names))))

  pub typestates_apart : length origins ≡ length program.typestates → AreDistinct (map (λ t. t.name) program.typestates)
  typestates_apart numbered =
      let ds = decls_of program.files in
      let ts = typestate_entries program.typestates origins in
      let names : names_in OfTypestate (entries program origins) ≡ map (λ t. t.name) program.typestates =
      names_in-append OfTypestate (map decl_entry ds) ts
      ∙ ap (λ ns. ns ++ names_in OfTypestate ts) (no_typestates ds)
      ∙ typestates_in program.typestates origins numbered in
      subst AreDistinct names (apart_in OfTypestate [] (entries program origins) (names_new _ clean.names))

  pub not_built_in : (name : Name) →
      Contains (map (λ c. c.name) (classes_of program.files) ++ map (λ e. e.name) (enums_of program.files)) name →
      Contains built_in_classes name → ⊥
  not_built_in name has built =
      let ds = decls_of program.files in
      let w = entry_of ds name (among ds name (subst (λ ns. Contains ns name) (sym (names_of program.files)) has)) in
      let q = earlier_of [] (entries program origins) w.0
      (Contains-append_left (map decl_entry ds) (typestate_entries program.typestates origins) w.0 w.1) in
      clean_at DuplicateName (with_earlier (entries program origins)) clean.names (q.0, w.0) q.1 (culprit w.0.place w.0.name)
      (refl, inr (w.2, subst (λ n. Contains built_in_classes n) (sym w.3) built))

pub aligned_map : {A B C : Type 0} {Is : A → B → Type 0} {xs : List A} {ys : List B} → Aligned Is xs ys → (f : A → C) (g : B → C) →
    ((a : A) (b : B) → Is a b → g b ≡ f a) → map g ys ≡ map f xs
aligned_map none f g same = refl
aligned_map (more {a = a} {b = b} {as' = xs} {bs = ys} is rest) f g same =
    ap (λ c. c ∷ map g ys) (same a b is) ∙ ap (λ cs. f a ∷ cs) (aligned_map rest f g same)

type_names_are : (program : Program) (core : Core.Program) → Resolves program core →
    type_names core ≡ map (λ c. c.name) (classes_of program.files) ++ map (λ e. e.name) (enums_of program.files)
type_names_are program core res =
    ap (λ ns. ns ++ map (λ (e : Core.Enum). text_at core e.name) core.enums)
    (aligned_map res.classes (λ c. c.name) (λ k. text_at core k.name) (λ c k is. text_is program core res k.name c.name is.name))
    ∙ ap (λ ns. map (λ (c : Class). c.name) (classes_of program.files) ++ ns)
    (aligned_map res.enums (λ e. e.name) (λ k. text_at core k.name) (λ e k is. text_is program core res k.name e.name is.name))

-- the names of classes and enums of a core
pub type_names_apart : (program : Program) (core : Core.Program) (origins : List ℕ) → NoFault program origins → Resolves program core →
    AreDistinct (type_names core)
type_names_apart program core origins clean res =
    subst AreDistinct (sym (type_names_are program core res)) (types_apart program origins clean)

pub named_apart : (program : Program) (core : Core.Program) (origins : List ℕ) → length origins ≡ length program.typestates →
    NoFault program origins → Resolves program core → AreNamedApart core
named_apart program core origins numbered clean res = record {
  types = type_names_apart program core origins clean res;
  not_built_in = λ name has built.
      not_built_in program origins clean name (subst (λ ns. Contains ns name) (type_names_are program core res) has) built;
  typestates = subst (λ ts. AreDistinct (map (λ t. t.name) ts)) (sym res.typestates) (typestates_apart program origins clean numbered);
}
