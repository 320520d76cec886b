use Rattle.std.proofs.Common.{◌≡◌, flat_map, fold, map}
use Rattle.ts_tree.specs.View.{state_of}
use Rattle.lsp_offers.specs.declared.firsts.By.TheVariants as bys
use Rattle.lsp_offers.specs.Firsts.{text_by, with_first}
use Rattle.lsp_offers.specs.Items.{methods_at, offered}
use Rattle.lsp_offers.specs.inner.Seen.{seen}
use Rattle.lsp_offers.proofs.items.offered_in.Given as goal

abbrev pub invariant-loop-element : goal.invariant-loop-element
invariant-loop-element l = record {
  met : l.met ≡ map (text_by bys.Name) (seen l.found.items);
  found : fold (with_first bys.Name) (seen l.found.items) (flat_map (methods_at (map state_of l.states)) l.element-iterator)
      ≡ offered (map state_of l.states) l.set;
}
