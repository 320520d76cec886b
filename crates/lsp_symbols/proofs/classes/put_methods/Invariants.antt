use Rattle.std.proofs.Common.{◌≡◌, ◌++◌, map, take}
use Rattle.jv_tree.specs.View.{method_of}
use Rattle.lsp_symbols.specs.Classes.{method_declared}
use Rattle.lsp_symbols.proofs.classes.put_methods.Given as goal

abbrev pub invariant-loop-method : goal.invariant-loop-method
invariant-loop-method l =
    l.declared.items ≡ l.initial.declared.items ++ map (method_declared l.class) (map method_of (take l.method-index l.methods))
