-- A program has the class files that are generated, and no others.
use Rattle.std.proofs.Common.{◌≡◌, ℕ, suc, List, [], ◌∷◌, ◌++◌, map, Option, refl, sym, ap, ap₂, ◌∙◌, subst}
use Rattle.cls_tree.specs.Tree as file
use Rattle.jv_core.specs.Tree.{Class, Method, Program}
use Rattle.gen_rules.specs.Templates.{IsCode}
use Rattle.gen_rules.specs.Classes.{Compiled, compiled, constructors, methods_in}
use Rattle.gen_rules.specs.Classes.{AreCompiled, AreCompiledClasses, IsCompiled, class_files, AreClasses}
use Rattle.gen_rules.specs.Limits.{Excess, first_in_classes, IsFirstExcess}
use Rattle.gen_rules.specs.inner.Generating.{generated}
use Rattle.gen_rules.specs.inner.Files.{generated_method, generated_class, generated_classes, classes_of, excess_of}
use Rattle.gen_rules.specs.Laws.{OneCode}
use Rattle.gen_rules.proofs.Generates.{generated_is, only_generated}

module _ (p : Program) where
  methods_are : (ms : List Method) → AreCompiled p ms (map (generated_method p) ms)
  methods_are [] = tt
  methods_are (m ∷ ms) = ((generated p m, generated_is p m, refl), methods_are ms)

  only_methods : (ms : List Method) (cs : List Compiled) → AreCompiled p ms cs → cs ≡ map (generated_method p) ms
  only_methods [] [] h = refl
  only_methods [] (c ∷ cs) h = absurd h
  only_methods (m ∷ ms) [] h = absurd h
  only_methods (m ∷ ms) (c ∷ cs) h =
      ap₂ (λ x xs. x ∷ xs) ((h.0).2 ∙ ap (compiled p m) (only_generated p m (h.0).0 (h.0).1)) (only_methods ms cs h.1)

  classes_are : (c : ℕ) (ks : List Class) → AreCompiledClasses p c ks (generated_classes p c ks)
  classes_are c [] = tt
  classes_are c (k ∷ ks) = (
    record {
      methods = map (generated_method p) (methods_in p k);
      made = methods_are (methods_in p k);
      all_are
          = refl;
    },
    classes_are (suc c) ks,
  )

  only_classes : (c : ℕ) (ks : List Class) (all : List (List Compiled)) → AreCompiledClasses p c ks all → all ≡ generated_classes p c ks
  only_classes c [] [] h = refl
  only_classes c [] (x ∷ all) h = absurd h
  only_classes c (k ∷ ks) [] h = absurd h
  only_classes c (k ∷ ks) (x ∷ all) h =
      let first : x ≡ generated_class p c k
      = (h.0).all_are ∙ ap (λ ms. constructors p c k k.typestate ++ ms) (only_methods (methods_in p k) (h.0).methods (h.0).made) in
      ap₂ (λ y ys. y ∷ ys) first (only_classes (suc c) ks all h.1)

  pub compiled_is : IsCompiled p (generated_classes p 0 p.classes)
  compiled_is = record { classes = classes_are 0 p.classes }

  pub only_compiled : (all : List (List Compiled)) → IsCompiled p all → all ≡ generated_classes p 0 p.classes
  only_compiled all h = only_classes 0 p.classes all h.classes

  pub files_are : AreClasses p (classes_of p)
  files_are = record { all = generated_classes p 0 p.classes; compiled = compiled_is; files_are = refl }

  pub only_files : (files : List file.Class) → AreClasses p files → files ≡ classes_of p
  only_files files h = h.files_are ∙ ap (class_files p p.classes) (only_compiled h.all h.compiled)

  pub excess_is : IsFirstExcess p (excess_of p)
  excess_is = record { all = generated_classes p 0 p.classes; compiled = compiled_is; is = refl }

  pub only_excess : (excess : Option Excess) → IsFirstExcess p excess → excess ≡ excess_of p
  only_excess excess h = h.is ∙ ap (first_in_classes p p.classes) (only_compiled h.all h.compiled)

pub one_code : OneCode
one_code = record {
  of_method = λ p m code. (only_generated p m code, λ e. subst (IsCode p m) (sym e) (generated_is p m));
  of_program = λ p files. (only_files p files, λ e. subst (AreClasses p) (sym e) (files_are p));
  first_excess = λ p x. (only_excess p x, λ e. subst (IsFirstExcess p) (sym e) (excess_is p));
}
