use Rattle.std.proofs.Common.{◌≡◌, ◌++◌, drop}
use Rattle.lsp_offers.specs.inner.Named.{chosen_by}
use Rattle.lsp_offers.specs.inner.Seen.{seen}
use Rattle.lsp_offers.proofs.items.put_chosen.Given as goal

abbrev pub invariant-loop-method : goal.invariant-loop-method
invariant-loop-method l =
    l.items.items ++ chosen_by l.tables l.always (seen (drop l.method-index l.methods))
    ≡ l.initial.items.items ++ chosen_by l.tables l.always (seen l.methods)
