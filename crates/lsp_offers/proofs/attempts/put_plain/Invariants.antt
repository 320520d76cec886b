use Rattle.std.proofs.Common.{◌≡◌, drop, filter, fold, map}
use Rattle.ts_tree.specs.View.{method_of}
use Rattle.lsp_offers.specs.declared.firsts.By.TheVariants as bys
use Rattle.lsp_offers.specs.Firsts.{text_by, with_first}
use Rattle.lsp_offers.specs.Attempts.{is_plain}
use Rattle.lsp_offers.specs.inner.Seen.{seen}
use Rattle.lsp_offers.proofs.attempts.put_plain.Given as goal

abbrev pub invariant-loop-method : goal.invariant-loop-method
invariant-loop-method l = record {
  met : l.met ≡ map (text_by bys.Result) (seen l.found.items);
  found : fold (with_first bys.Result) (seen l.found.items) (filter is_plain (map method_of (drop l.method-index l.methods)))
      ≡ fold (with_first bys.Result) (seen l.initial.found.items) (filter is_plain (map method_of l.methods));
}
