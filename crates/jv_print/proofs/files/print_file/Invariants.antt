use Rattle.std.proofs.Common.{◌≡◌, ◌++◌, drop, map, string_bytes}
use Rattle.std.specs.List.{flat_map}
use Rattle.jv_tree.specs.View.{decl_of, file_of}
use Rattle.jv_print.specs.Layout.{decl_lines, layout}
use Rattle.jv_print.proofs.files.print_file.Given as goal

abbrev pub invariant-loop-decl : goal.invariant-loop-decl
invariant-loop-decl l = layout (file_of l.file) ≡ string_bytes l.out ++ flat_map decl_lines
    (map decl_of (drop l.decl-index l.file.decls.items))
