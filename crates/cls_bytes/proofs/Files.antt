-- What can stand in a file can be laid out.
use Rattle.std.proofs.Common.{true, false}
use Rattle.cls_tree.specs.Tree.{Class}
use Rattle.cls_tree.specs.Fits.{FitsAttr, FitsMember, Fits}
use Rattle.cls_tree.specs.ClassFile.{FileAttr, FileMember}
use Rattle.cls_tree.proofs.Files.{all_map, attr_fits, member_fits}
use Rattle.cls_bytes.specs.File.{IsFile}

pub class_fits : (c : Class) → IsFile c → Fits c
class_fits c f =
    record {
      pool = f.pool;
      count = f.count;
      access = f.access;
      this_class = f.this_class;
      super_class = f.super_class;
      fields = (all_map (FileMember c.pool false) FitsMember (member_fits c.pool false) c.fields f.fields.0, f.fields.1);
      methods = (all_map (FileMember c.pool true) FitsMember (member_fits c.pool true) c.methods f.methods.0, f.methods.1);
      attributes = (all_map (FileAttr c.pool false) FitsAttr (attr_fits c.pool false) c.attributes f.attributes.0, f.attributes.1);
    }
