-- The class file of a class that exceeds no limit can be laid out, is well formed, and its codes are sound.
use Rattle.std.specs.Prelude.{◌≡◌, ◌<◌, ◌^◌, ◌-◌, List, [], length, None}
use Rattle.std.specs.List.{AllByRecursion}
use Rattle.std.specs.Str.{IsUtf8}
use Rattle.cls_tree.specs.Tree as file
use Rattle.cls_tree.specs.Fits.{Fits}
use Rattle.cls_tree.specs.Jumps.{HasSoundCode}
use Rattle.cls_tree.specs.WellFormed.{IsWellFormed}
use Rattle.jv_core.specs.Conditions.{IsCore}
use Rattle.jv_core.specs.Tree.{Class, Program}
use Rattle.gen_rules.specs.Classes.{Compiled, AreClasses, class_file}
use Rattle.gen_rules.specs.Limits.{parts_in, first_in_parts, IsFirstExcess}
use Rattle.gen_links.specs.Files.{HasPlainNames, JumpsInside}
use Rattle.gen_links.specs.Encodable.{CanStand}
use Rattle.gen_links.specs.Held.{IsHeld}

-- what writing a class file asks, and what makes its bytes read back
pub record IsSpelled (c : file.Class) : Type 0 where
  pub fits : Fits c
  pub well_formed : IsWellFormed c
  pub sound : HasSoundCode c

-- a class with fewer than 65,536 fields and methods, whose methods can stand in a file
pub record FilesFit : Type 0 where
  pub spelled : (p : Program) (k : Class) (cs : List Compiled) → AllByRecursion IsUtf8 p.names → AllByRecursion CanStand cs →
      AllByRecursion JumpsInside cs → length k.fields < 2 ^ 16 → length cs < 2 ^ 16 → first_in_parts p k (parts_in k cs) [] ≡ None →
      IsSpelled (class_file p k cs)

-- so few that the file can count them, also with a constructor
pub record HasFewMembers (k : Class) : Type 0 where
  pub fields : length k.fields < 2 ^ 16
  pub methods : length k.methods < 2 ^ 16 - 1

-- So it is for each class file of a core whose names are plain and which a file can hold, where nothing exceeds a limit.
pub record CoresFit : Type 0 where
  pub spelled : (p : Program) → IsCore p → HasPlainNames p → IsHeld p → AllByRecursion HasFewMembers p.classes → IsFirstExcess p None →
      (files : List file.Class) → AreClasses p files → AllByRecursion IsSpelled files

-- No class of a core has too many members where nothing exceeds a limit: no two of their names are the same, and each is a text of its own
-- in the class's pool.
pub record CoresAreSmall : Type 0 where
  pub few : (p : Program) → IsCore p → IsFirstExcess p None → AllByRecursion HasFewMembers p.classes
