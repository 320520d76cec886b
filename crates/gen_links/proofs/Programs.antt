-- The class files of a core link where its classes and members are found.
use Rattle.std.proofs.Common.{◌≡◌, ℕ, zero, suc, ◌+◌, List, [], ◌∷◌, ◌++◌, map, Option}
use Rattle.std.proofs.Common.{Some, None, slice_get, filter_map, refl, sym, ap, ap₂, ◌∙◌, subst, arith, flat_map}
use Rattle.std.specs.List.{AllByRecursion}
use Rattle.vm_model.specs.Links as links
use Rattle.vm_model.specs.Links.{Links, Flaw, Outline, Declared, outlines, linked}
use Rattle.vm_model.specs.Links.{flaws, class_flaws, some_in, field_flaw, method_flaw, duplicates}
use Rattle.jv_core.specs.Tree.{Class, Method, Program}
use Rattle.jv_core.specs.Conditions.{IsMethod}
use Rattle.gen_rules.specs.Classes.{Compiled, constructors, methods_in, AreCompiled}
use Rattle.gen_rules.specs.Classes.{IsCompiledClass, AreCompiledClasses, class_file, class_files}
use Rattle.gen_rules.specs.Linked.{outline_of, outlines_of, linked_classes}
use Rattle.gen_rules.specs.inner.Generating.{generated}
use Rattle.gen_rules.proofs.Generates.{only_generated}
use Rattle.gen_links.specs.Right.{AreRight}
use Rattle.gen_links.specs.Known.{Knows}
use Rattle.gen_links.specs.Files.{HasGoodDescriptors, FilesLink}
use Rattle.gen_links.proofs.Bodies.{code_is_right}
use Rattle.gen_links.proofs.Filed.{outline_is, class_is, code_flaws_none, super_is}

-- Methods.

pub every : {A : Type 0} (P : A → Type 0) (xs : List A) → AllByRecursion P xs → (n : ℕ) (x : A) → slice_get xs n ≡ Some x → P x
every P [] h n x e = absurd cc
every P (y ∷ xs) h zero x e = subst P (same e) h.0
  where
    same : Some y ≡ Some x → y ≡ x
    same f = ap (elim [ None ↦ y | Some z ↦ z ]) f
every P (y ∷ xs) h (suc n) x e = every P xs h.1 n x e

pub found_ones : {A : Type 0} (P : A → Type 0) (xs : List A) → AllByRecursion P xs → (ns : List ℕ) →
    AllByRecursion P (filter_map (slice_get xs) ns)
found_ones P xs h [] = tt
found_ones {A} P xs h (n ∷ ns) = go (slice_get xs n) refl (found_ones P xs h ns)
  where
    go : (o : Option A) → slice_get xs n ≡ o → AllByRecursion P (filter_map (slice_get xs) ns) →
        AllByRecursion P (filter_map (slice_get xs) (n ∷ ns))
    go None e rest = rw e rest
    go (Some x) e rest = rw e (every P xs h n x e, rest)

abbrev pub CodesRight : List Outline → List Compiled → Type 0
CodesRight os cs = AllByRecursion (λ c. AreRight os c.code) cs

codes_both : (os : List Outline) (a b : List Compiled) → CodesRight os a → CodesRight os b → CodesRight os (a ++ b)
codes_both os [] b h g = g
codes_both os (c ∷ a) b h g = (h.0, codes_both os a b h.1 g)

module _ (p : Program) (os : List Outline) (knows : (count : ℕ) → Knows os p count) where
  methods_right : (ms : List Method) (cs : List Compiled) → AreCompiled p ms cs → AllByRecursion (IsMethod p) ms → CodesRight os cs
  methods_right [] [] h g = tt
  methods_right [] (c ∷ cs) h g = absurd h
  methods_right (m ∷ ms) [] h g = absurd h
  methods_right (m ∷ ms) (c ∷ cs) h g =
      let code : c.code ≡ generated p m = ap (λ x. x.code) (h.0).2 ∙ only_generated p m (h.0).0 (h.0).1 in
      (subst (AreRight os) (sym code) (code_is_right.right os p m knows g.0), methods_right ms cs h.1 g.1)

  constructors_right : (c : ℕ) (k : Class) → slice_get p.classes c ≡ Some k → (t : Option ℕ) → CodesRight os (constructors p c k t)
  constructors_right c k at None = tt
  constructors_right c k at (Some t) = (code_is_right.constructor_right os p c k knows at, tt)

  class_right : AllByRecursion (IsMethod p) p.methods → (c : ℕ) (k : Class) → slice_get p.classes c ≡ Some k → (all : List Compiled) →
      IsCompiledClass p c k all → CodesRight os all
  class_right g c k at all h =
      subst (CodesRight os) (sym h.all_are)
      (codes_both os (constructors p c k k.typestate) h.methods (constructors_right c k at k.typestate)
      (methods_right (methods_in p k) h.methods h.made (found_ones (IsMethod p) p.methods g k.methods)))

  -- the classes from number c on
  pub classes_right : AllByRecursion (IsMethod p) p.methods → (c : ℕ) (ks : List Class) (all : List (List Compiled)) →
      ((i : ℕ) (k : Class) → slice_get ks i ≡ Some k → slice_get p.classes (c + i) ≡ Some k) → AreCompiledClasses p c ks all →
      AllByRecursion (CodesRight os) all
  classes_right g c [] [] at h = tt
  classes_right g c [] (x ∷ all) at h = absurd h
  classes_right g c (k ∷ ks) [] at h = absurd h
  classes_right g c (k ∷ ks) (x ∷ all) at h = (
    class_right g c k (subst (λ n. slice_get p.classes n ≡ Some k) (omega arith) (at 0 k refl)) x h.0,
    classes_right g (suc c) ks all (λ i y e. subst (λ n. slice_get p.classes n ≡ Some y) (omega arith) (at (suc i) y e)) h.1,
  )

-- Files.

module _ (p : Program) where
  outlines_are : (ks : List Class) (all : List (List Compiled)) → outlines (class_files p ks all) ≡ outlines_of p ks all
  outlines_are [] all = refl
  outlines_are (k ∷ ks) [] = refl
  outlines_are (k ∷ ks) (cs ∷ all) = ap₂ (λ x xs. x ∷ xs) (outline_is p k cs) (outlines_are ks all)

  module _ (os : List Outline) where
    classes_are : (ks : List Class) (all : List (List Compiled)) → AllByRecursion (CodesRight os) all →
        map (links.linked_class os) (class_files p ks all) ≡ linked_classes p os ks all
    classes_are [] all h = refl
    classes_are (k ∷ ks) [] h = refl
    classes_are (k ∷ ks) (cs ∷ all) h = ap₂ (λ x xs. x ∷ xs) (class_is p k cs os h.0) (classes_are ks all h.1)

    none_in : (f : Declared → Option Flaw) (ds : List Declared) → AllByRecursion (λ d. f d ≡ None) ds → some_in (map f ds) ≡ []
    none_in f [] h = refl
    none_in f (d ∷ ds) h = ap (λ x. some_in (x ∷ map f ds)) h.0 ∙ none_in f ds h.1

    no_class_flaws : (k : Class) (cs : List Compiled) → HasGoodDescriptors os (outline_of p k cs) → CodesRight os cs →
        class_flaws os (class_file p k cs) ≡ []
    no_class_flaws k cs good right =
        let fields = ap (λ o. some_in (map (field_flaw os) o.fields)) (outline_is p k cs)
        ∙ none_in (field_flaw os) (outline_of p k cs).fields good.fields in
        let methods = ap (λ o. some_in (map (method_flaw os) o.methods)) (outline_is p k cs)
        ∙ none_in (method_flaw os) (outline_of p k cs).methods good.methods in
        ap₂ (λ x y. x ++ y) (ap (λ x. some_in (x ∷ [])) (super_is p k cs))
        (ap₂ (λ x y. x ++ y) fields (ap₂ (λ x y. x ++ y) methods (code_flaws_none p k cs os right)))

    no_flaws : (ks : List Class) (all : List (List Compiled)) → AllByRecursion (HasGoodDescriptors os) (outlines_of p ks all) →
        AllByRecursion (CodesRight os) all → flat_map (class_flaws os) (class_files p ks all) ≡ []
    no_flaws [] all good right = refl
    no_flaws (k ∷ ks) [] good right = refl
    no_flaws (k ∷ ks) (cs ∷ all) good right = ap₂ (λ x y. x ++ y) (no_class_flaws k cs good.0 right.0) (no_flaws ks all good.1 right.1)

pub files_link : FilesLink
files_link = record {
  links = λ p core all compiled found.
      let os = outlines_of p p.classes all in
      let are = outlines_are p p.classes all in
      let right : AllByRecursion (CodesRight os) all = classes_right p os found.knows core.methods 0 p.classes all
      (λ i k e. subst (λ n. slice_get p.classes n ≡ Some k) (omega arith) e) compiled.classes in
      record {
        right = ap (λ o. duplicates [] (map (λ x. x.name) o) ++ flat_map (class_flaws o) (class_files p p.classes all)) are
            ∙ ap₂ (λ x y. x ++ y) found.apart (no_flaws p os p.classes all found.descriptors right);
        program = sym (ap (λ o. map (links.linked_class o) (class_files p p.classes all)) are ∙ classes_are p os p.classes all right);
      };
}
