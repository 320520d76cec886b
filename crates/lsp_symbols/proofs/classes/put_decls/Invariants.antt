use Rattle.std.proofs.Common.{◌≡◌, ◌++◌, take}
use Rattle.std.specs.List.{flat_map}
use Rattle.jv_tree.specs.View.{decl_of}
use Rattle.lsp_symbols.specs.Classes.{decl_declared}
use Rattle.lsp_symbols.proofs.classes.put_decls.Given as goal

abbrev pub invariant-loop-decl : goal.invariant-loop-decl
invariant-loop-decl l =
    l.declared.items ≡ l.initial.declared.items ++ flat_map (λ d. decl_declared (decl_of d)) (take l.decl-index l.decls)
