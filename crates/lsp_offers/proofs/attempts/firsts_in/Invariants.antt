use Rattle.std.proofs.Common.{◌≡◌, ◌++◌, drop, filter, flat_map, fold, map}
use Rattle.ts_tree.specs.View.{state_of}
use Rattle.lsp_offers.specs.declared.firsts.By.TheVariants as bys
use Rattle.lsp_offers.specs.Firsts.{text_by, with_first, firsts}
use Rattle.lsp_offers.specs.Attempts.{is_plain}
use Rattle.lsp_offers.specs.inner.Seen.{seen}
use Rattle.lsp_offers.proofs.attempts.firsts_in.Given as goal

abbrev pub invariant-loop-state : goal.invariant-loop-state
invariant-loop-state l = record {
  met : l.met ≡ map (text_by bys.Result) (seen l.found.items);
  found : fold (with_first bys.Result) (seen l.found.items)
      (flat_map (λ s. filter is_plain s.methods) (map state_of (drop l.state-index l.states)))
      ≡ firsts bys.Result (flat_map (λ s. filter is_plain s.methods) (map state_of l.states));
}

abbrev pub invariant-loop-state-2 : goal.invariant-loop-state-2
invariant-loop-state-2 l = record {
  met : l.met ≡ map (text_by bys.Result) (seen l.found.items);
  found : fold (with_first bys.Result) (seen l.found.items) (flat_map (λ s. s.methods) (map state_of (drop l.state-index l.states)))
      ≡ firsts bys.Result
      (flat_map (λ s. filter is_plain s.methods) (map state_of l.states) ++ flat_map (λ s. s.methods) (map state_of l.states));
}
