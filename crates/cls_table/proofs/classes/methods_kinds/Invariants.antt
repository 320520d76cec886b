use Rattle.std.proofs.Common.{◌≡◌, map, take}
use Rattle.mg_text.specs.Call.{Name}
use Rattle.vm_model.specs.View.{method_of}
use Rattle.cls_verify.specs.Kinds.{Instance}
use Rattle.cls_kinds.specs.Named.{kind_of}
use Rattle.cls_table.specs.Tables.{AreMethods}
use Rattle.cls_table.proofs.classes.methods_kinds.Given as goal

abbrev pub invariant-loop-method : goal.invariant-loop-method
invariant-loop-method l = (class : Name) → kind_of l.names l.receiver ≡ Instance class →
    AreMethods l.names class (map method_of (take l.method-index l.methods)) l.kinds.items
