-- Which attributes and members may stand in a class file: their numbers and counts fit, their codes are sound, and an attribute is
-- code exactly where it is a method's and so named, at most one of each method.
use Rattle.std.specs.Prelude.{◌≡◌, ◌≤◌, ℕ, List, Option, Some, None, Bool, true, false, count_by, codes}
use Rattle.std.specs.Str.{bytes_eq}
use Rattle.cls_tree.specs.declared.class.Const.{Const}
use Rattle.cls_tree.specs.Pool.{text_at}
use Rattle.cls_tree.specs.Tree.{Attr, Coded, Other, Member}
use Rattle.cls_tree.specs.Fits.{IsU2, IsRun, Counted, FitsCode}
use Rattle.cls_tree.specs.Jumps.{IsSound}
use Rattle.cls_tree.specs.WellFormed.{is_code}

abbrev pub is_code_text : Option (List ℕ) → Bool
is_code_text None = false
is_code_text (Some text) = bytes_eq text (codes "Code")

-- whether the number is that of the name of code
unfoldable pub names_code : List Const → ℕ → Bool
names_code pool n = is_code_text (text_at pool n)

-- an attribute, of a method or not
abbrev pub FileAttr : List Const → Bool → Attr → Type 0
FileAttr pool of_method (Coded c) = FitsCode c × IsSound c.instrs × (of_method ≡ true) × (names_code pool c.name ≡ true)
FileAttr pool true (Other name bytes) = IsU2 name × IsRun bytes × (names_code pool name ≡ false)
FileAttr pool false (Other name bytes) = IsU2 name × IsRun bytes × Unit {0}

pub record FileMember (pool : List Const) (is_method : Bool) (m : Member) : Type 0 where
  pub access : IsU2 m.access
  pub name : IsU2 m.name
  pub descriptor : IsU2 m.descriptor
  pub attributes : Counted (FileAttr pool is_method) m.attributes
  pub one_code : count_by is_code m.attributes ≤ 1
