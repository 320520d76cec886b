use Rattle.std.proofs.Common.{◌≡◌, drop, fold, map}
use Rattle.ts_tree.specs.View.{method_of}
use Rattle.lsp_offers.specs.Firsts.{text_by, with_first}
use Rattle.lsp_offers.specs.inner.Seen.{seen}
use Rattle.lsp_offers.proofs.firsts.put_firsts.Given as goal

abbrev pub invariant-loop-method : goal.invariant-loop-method
invariant-loop-method l = record {
  met : l.met ≡ map (text_by l.by) (seen l.found.items);
  found : fold (with_first l.by) (seen l.found.items) (map method_of (drop l.method-index l.methods))
      ≡ fold (with_first l.by) (seen l.initial.found.items) (map method_of l.methods);
}
