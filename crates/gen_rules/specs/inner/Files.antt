-- The class files of a program, with the code that is generated for each method.
use Rattle.std.specs.Prelude.{ℕ, suc, List, [], ◌∷◌, ◌++◌, map, Option}
use Rattle.cls_tree.specs.Tree as file
use Rattle.jv_core.specs.Tree.{Class, Method, Program}
use Rattle.gen_rules.specs.Classes.{Compiled, compiled, constructors, methods_in, class_files}
use Rattle.gen_rules.specs.Limits.{Excess, first_in_classes}
use Rattle.gen_rules.specs.inner.Generating.{generated}

abbrev pub generated_method : Program → Method → Compiled
generated_method p m = compiled p m (generated p m)

abbrev pub generated_class : Program → (class : ℕ) → Class → List Compiled
generated_class p c k = constructors p c k k.typestate ++ map (generated_method p) (methods_in p k)

-- the first of these classes has number c
abbrev pub generated_classes : Program → (class : ℕ) → List Class → List (List Compiled)
generated_classes p c [] = []
generated_classes p c (k ∷ ks) = generated_class p c k ∷ generated_classes p (suc c) ks

abbrev pub classes_of : Program → List file.Class
classes_of p = class_files p p.classes (generated_classes p 0 p.classes)

abbrev pub excess_of : Program → Option Excess
excess_of p = first_in_classes p p.classes (generated_classes p 0 p.classes)
