-- Which classes can stand in a file: their numbers, texts and counts fit, their codes are sound, and an attribute is code
-- exactly where it is a method's and so named, at most one of each method.
use Rattle.std.specs.Prelude.{◌+◌, false, true, length}
use Rattle.std.specs.List.{AllByRecursion}
use Rattle.cls_tree.specs.Tree.{Class}
use Rattle.cls_tree.specs.Fits.{IsU2, Counted, FitsConst}
use Rattle.cls_tree.specs.ClassFile.{FileAttr, FileMember}

pub record IsFile (c : Class) : Type 0 where
  pub pool : AllByRecursion FitsConst c.pool
  pub count : IsU2 (length c.pool + 1)
  pub access : IsU2 c.access
  pub this_class : IsU2 c.this_class
  pub super_class : IsU2 c.super_class
  pub fields : Counted (FileMember c.pool false) c.fields
  pub methods : Counted (FileMember c.pool true) c.methods
  pub attributes : Counted (FileAttr c.pool false) c.attributes
