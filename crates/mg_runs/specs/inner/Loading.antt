-- For private clauses: class files that are read back.
use Rattle.std.specs.Prelude.{List, map}
use Rattle.cls_tree.specs.Tree.{Class as File}
use Rattle.mg_compile.specs.declared.files.ClassFile.{ClassFile}
use Rattle.mg_runs.specs.Runs.{AreSpelled}

-- each of these bytes spells a class file
abbrev pub HaveFiles : List ClassFile → Type 0
HaveFiles written = (files : List File) × AreSpelled (map (λ f. f.bytes) written) files
