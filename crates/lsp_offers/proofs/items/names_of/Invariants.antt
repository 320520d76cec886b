use Rattle.std.proofs.Common.{◌≡◌, drop, fold, map}
use Rattle.mg_text.specs.Interned.{with_text}
use Rattle.ts_tree.specs.View.{method_of}
use Rattle.lsp_offers.specs.inner.Named.{names_of}
use Rattle.lsp_offers.proofs.items.names_of.Given as goal

abbrev pub invariant-loop-method : goal.invariant-loop-method
invariant-loop-method l =
    fold with_text l.names (map (λ m. m.name) (map method_of (drop l.method-index l.methods))) ≡ names_of (map method_of l.methods)
