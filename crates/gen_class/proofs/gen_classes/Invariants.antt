use Rattle.std.proofs.Common.{map, drop}
use Rattle.cls_tree.specs.View.{class_of as file_of}
use Rattle.gen_class.proofs.Programs.{AreLeft}
use Rattle.gen_class.proofs.gen_classes.Given as goal

-- the files so far, and those of the classes that are left, are all, and nothing was too large
abbrev pub invariant-loop-number : goal.invariant-loop-number
invariant-loop-number l = AreLeft l.fn.core l.number (drop l.number l.fn.core.classes) (map file_of l.files.items)
