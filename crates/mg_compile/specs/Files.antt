-- The class files of a program: one for each class, in their order.
use Rattle.std.specs.Prelude.{◌≡◌, List, [], ◌∷◌, ◌++◌, None, codes}
use Rattle.cls_tree.specs.Tree as file
use Rattle.cls_bytes.specs.Spelling.{ClassSpells}
use Rattle.jv_core.specs.Tree.{Class, Program}
use Rattle.jv_core.specs.Lookup.{text_at}
use Rattle.gen_rules.specs.Classes.{AreClasses}
use Rattle.gen_rules.specs.Limits.{IsFirstExcess}
use Rattle.mg_compile.specs.declared.files.ClassFile.{ClassFile}

-- the file is named after the class, and its bytes spell this class file
pub record HoldsClass (p : Program) (k : Class) (made : file.Class) (written : ClassFile) : Type 0 where
  pub named : written.name ≡ text_at p k.name ++ codes ".class"
  pub spelled : ClassSpells written.bytes made

-- one file for each of these classes, in their order
abbrev pub HoldClasses : Program → List Class → List file.Class → List ClassFile → Type 0
HoldClasses p [] [] [] = Unit {0}
HoldClasses p (k ∷ ks) (made ∷ more) (written ∷ rest) = HoldsClass p k made written × HoldClasses p ks more rest
HoldClasses p _ _ _ = ⊥

-- These files hold the class files of a program, and none of their sizes is too large.
pub record AreClassFiles (p : Program) (written : List ClassFile) : Type 0 where
  pub classes : List file.Class
  pub are : AreClasses p classes
  pub fine : IsFirstExcess p None
  pub hold : HoldClasses p p.classes classes written
