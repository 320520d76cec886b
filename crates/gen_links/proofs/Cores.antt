-- The class files of a core link.
use Rattle.std.proofs.Common.{◌≡◌, ℕ, suc, ◌+◌, List, [], ◌∷◌, ◌++◌, map}
use Rattle.std.proofs.Common.{Option, Some, None, slice_get, refl, sym, subst, arith}
use Rattle.std.specs.List.{AllByRecursion}
use Rattle.vm_model.specs.Links.{Outline, field_flaw, method_flaw, BadDescriptor}
use Rattle.jv_core.specs.Tree.{Field, Class, Method, Program}
use Rattle.jv_core.specs.Members.{IsField}
use Rattle.jv_core.specs.Conditions.{IsCore, IsMethod}
use Rattle.gen_rules.specs.Members.{field_descriptor, method_descriptor, init_descriptor}
use Rattle.gen_rules.specs.Classes.{Compiled, constructors, methods_in, AreCompiled, IsCompiledClass, AreCompiledClasses}
use Rattle.gen_rules.specs.Linked.{declared_field, declared_method, outline_of, outlines_of}
use Rattle.gen_links.specs.Right.{AreRight}
use Rattle.gen_links.specs.Known.{Knows}
use Rattle.gen_links.proofs.Sounding.{jumps_inside}
use Rattle.gen_links.specs.Files.{HasPlainNames, HasGoodDescriptors, IsFound, CoresLink, JumpsInside, CoresJump}
use Rattle.gen_links.proofs.Apart.{apart}
use Rattle.gen_links.proofs.Described.{field_described, descriptor_good, init_described}
use Rattle.gen_links.proofs.Looked.{here, knows_class, knows_field}
use Rattle.gen_links.proofs.Called.{knows_method, knows_init_of}
use Rattle.gen_links.proofs.Programs.{every, found_ones, files_link, classes_right}

module _ (p : Program) (core : IsCore p) (plain : HasPlainNames p) (all : List (List Compiled))
    (compiled : AreCompiledClasses p 0 p.classes all) where
  abbrev os : List Outline
  os = here p core plain all compiled

  fields_good : (ds : List Field) → AllByRecursion (IsField p) ds →
      AllByRecursion (λ d. field_flaw os d ≡ None) (map (declared_field p) ds)
  fields_good [] h = tt
  fields_good (d ∷ ds) h =
      (field_described p core plain all compiled (Some (BadDescriptor (field_descriptor p d.ty))) d.ty (h.0).type, fields_good ds h.1)

  methods_good : (ms : List Method) (cs : List Compiled) → AreCompiled p ms cs → AllByRecursion (IsMethod p) ms →
      AllByRecursion (λ d. method_flaw os d ≡ None) (map declared_method cs)
  methods_good [] [] h g = tt
  methods_good [] (c ∷ cs) h g = absurd h
  methods_good (m ∷ ms) [] h g = absurd h
  methods_good (m ∷ ms) (c ∷ cs) h g = (
    subst (λ x. method_flaw os (declared_method x) ≡ None) (sym (h.0).2)
        (descriptor_good p core plain all compiled (Some (BadDescriptor (method_descriptor p m))) m g.0),
    methods_good ms cs h.1 g.1,
  )

  with_constructors : (c : ℕ) (k : Class) (t : Option ℕ) (cs : List Compiled) →
      AllByRecursion (λ d. method_flaw os d ≡ None) (map declared_method cs) →
      AllByRecursion (λ d. method_flaw os d ≡ None) (map declared_method (constructors p c k t ++ cs))
  with_constructors c k None cs h = h
  with_constructors c k (Some t) cs h = (init_described p core plain all compiled (Some (BadDescriptor init_descriptor)), h)

  class_good : (c : ℕ) (k : Class) (cs : List Compiled) → slice_get p.classes c ≡ Some k → IsCompiledClass p c k cs →
      HasGoodDescriptors os (outline_of p k cs)
  class_good c k cs at h = record {
    fields = fields_good k.fields (core.classes c k at).fields;
    methods =
        subst (λ xs. AllByRecursion (λ d. method_flaw os d ≡ None) (map declared_method xs)) (sym h.all_are)
        (with_constructors c k k.typestate h.methods
        (methods_good (methods_in p k) h.methods h.made (found_ones (IsMethod p) p.methods core.methods k.methods)));
  }

  classes_good : (c : ℕ) (ks : List Class) (rest : List (List Compiled)) →
      ((i : ℕ) (k : Class) → slice_get ks i ≡ Some k → slice_get p.classes (c + i) ≡ Some k) → AreCompiledClasses p c ks rest →
      AllByRecursion (HasGoodDescriptors os) (outlines_of p ks rest)
  classes_good c [] [] at h = tt
  classes_good c [] (x ∷ rest) at h = absurd h
  classes_good c (k ∷ ks) [] at h = absurd h
  classes_good c (k ∷ ks) (x ∷ rest) at h = (
    class_good c k x (let same : c + 0 ≡ c = omega arith in subst (λ n. slice_get p.classes n ≡ Some k) same (at 0 k refl)) h.0,
    classes_good (suc c) ks rest (λ i y e.
        let same : c + suc i ≡ suc c + i = omega arith in subst (λ n. slice_get p.classes n ≡ Some y) same (at (suc i) y e)) h.1,
  )

  knows_all : (count : ℕ) → Knows os p count
  knows_all count = record {
    class = λ c h. knows_class p core plain all compiled c h;
    init = λ c h. knows_init_of p core plain all compiled c h.class h.at count h.typestate h.is;
    field = λ op c f k d e at of. knows_field p core plain all compiled c f k d at of count op e;
    method = λ op n m e g. knows_method p core plain all compiled count op n m e (every (IsMethod p) p.methods core.methods n m e) g;
  }

  pub all_found : IsFound p os
  all_found = record {
    knows = knows_all;
    descriptors = classes_good 0 p.classes all (λ i k e. let same : i ≡ 0 + i
        = omega arith in subst (λ n. slice_get p.classes n ≡ Some k) same e) compiled;
    apart = apart p core plain all compiled;
  }

pub cores_link : CoresLink
cores_link = record {
  link = λ p core plain all compiled. files_link.links p core all compiled (all_found p core plain all compiled.classes);
}

-- Jumps.

all_inside : (classes : List Outline) (cs : List Compiled) → AllByRecursion (λ c. AreRight classes c.code) cs →
    AllByRecursion JumpsInside cs
all_inside classes [] h = tt
all_inside classes (c ∷ cs) h = ((λ pool. jumps_inside classes c.code pool h.0), all_inside classes cs h.1)

each_inside : (classes : List Outline) (all : List (List Compiled)) → AllByRecursion (AllByRecursion (λ c. AreRight classes c.code)) all →
    AllByRecursion (AllByRecursion JumpsInside) all
each_inside classes [] h = tt
each_inside classes (cs ∷ all) h = (all_inside classes cs h.0, each_inside classes all h.1)

pub cores_jump : CoresJump
cores_jump = record {
  inside = λ p core plain all compiled.
      let found = all_found p core plain all compiled.classes in
      let classes = outlines_of p p.classes all in
      each_inside classes all (classes_right p classes found.knows core.methods 0 p.classes all
      (λ i k e. let same : i ≡ 0 + i = omega arith in subst (λ n. slice_get p.classes n ≡ Some k) same e) compiled.classes);
}
