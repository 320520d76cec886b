-- The declarations that the loop went over are all of them.
use Rattle.std.proofs.Common.{◌++◌, ◌∙◌, List, sym, ap}
use Rattle.std.specs.List.{flat_map}
use Rattle.std.proofs.lemmas.List.{take_all}
use Rattle.std.proofs.lemmas.List.Folds.{flat_map-map}
use Rattle.jv_tree.specs.declared.tree.Decl.{Decl}
use Rattle.jv_tree.specs.View.{decl_of}
use Rattle.lsp_symbols.specs.declared.things.Declared.{Declared}
use Rattle.lsp_symbols.specs.Classes.{decl_declared}
use Rattle.lsp_symbols.proofs.classes.put_decls.Goals as goal

pub returns : goal.returns
returns c =
    c.loop-decl.invariant
    ∙ ap (λ (xs : List Decl). c.args.declared.now.items ++ flat_map (λ d. decl_declared (decl_of d)) xs)
    (take_all c.loop-decl.decl-index c.args.decls.now c.loop-decl-test.false)
    ∙ ap (λ (xs : List Declared). c.args.declared.now.items ++ xs) (sym (flat_map-map decl_declared decl_of c.args.decls.now))
