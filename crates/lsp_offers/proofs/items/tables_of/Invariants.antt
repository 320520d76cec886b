use Rattle.std.proofs.Common.{◌≡◌, ◌++◌, map}
use Rattle.mg_sets.specs.Sets.{members}
use Rattle.ts_tree.specs.View.{state_of}
use Rattle.lsp_offers.specs.inner.Named.{tables_of}
use Rattle.lsp_offers.proofs.items.tables_of.Given as goal

abbrev pub invariant-loop-element : goal.invariant-loop-element
invariant-loop-element l =
    l.tables.items ++ tables_of (map state_of l.states) l.element-iterator ≡ tables_of (map state_of l.states) (members l.set)
