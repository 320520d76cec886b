use Rattle.std.proofs.Common.{◌≡◌, ◌++◌, map, take}
use Rattle.jv_tree.specs.View.{field_of}
use Rattle.lsp_symbols.specs.Classes.{field_declared}
use Rattle.lsp_symbols.proofs.classes.put_fields.Given as goal

abbrev pub invariant-loop-field : goal.invariant-loop-field
invariant-loop-field l =
    l.declared.items ≡ l.initial.declared.items ++ map (field_declared l.class) (map field_of (take l.field-index l.fields))
