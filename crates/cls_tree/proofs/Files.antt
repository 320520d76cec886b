-- What may stand in a class file can be laid out.
use Rattle.std.proofs.Common.{Bool, true, false, List, [], ◌∷◌}
use Rattle.std.specs.List.{AllByRecursion}
use Rattle.cls_tree.specs.declared.class.Const.{Const}
use Rattle.cls_tree.specs.Tree.{Attr, Coded, Other, Member}
use Rattle.cls_tree.specs.Fits.{FitsAttr, FitsMember}
use Rattle.cls_tree.specs.ClassFile.{FileAttr, FileMember}

pub all_map : {A : Type 0} (P Q : A → Type 0) → ((a : A) → P a → Q a) → (xs : List A) → AllByRecursion P xs → AllByRecursion Q xs
all_map P Q f [] all = tt
all_map P Q f (x ∷ xs) all = (f x all.0, all_map P Q f xs all.1)

pub attr_fits : (pool : List Const) (of_method : Bool) (a : Attr) → FileAttr pool of_method a → FitsAttr a
attr_fits pool true (Coded c) f = f.0
attr_fits pool false (Coded c) f = f.0
attr_fits pool true (Other name bytes) f = (f.0, f.1)
attr_fits pool false (Other name bytes) f = (f.0, f.1)

pub member_fits : (pool : List Const) (is_method : Bool) (m : Member) → FileMember pool is_method m → FitsMember m
member_fits pool is_method m f =
    record {
      access = f.access;
      name = f.name;
      descriptor = f.descriptor;
      attributes = (all_map (FileAttr pool is_method) FitsAttr (attr_fits pool is_method) m.attributes f.attributes.0, f.attributes.1);
    }
