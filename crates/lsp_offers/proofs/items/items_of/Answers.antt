use Rattle.std.proofs.Common.{map, ap, ◌∙◌}
use Rattle.ts_tree.specs.View.{state_of}
use Rattle.lsp_offers.specs.inner.Seen.{seen}
use Rattle.lsp_offers.proofs.Naming.{both_put}
use Rattle.lsp_offers.proofs.items.items_of.Goals as goal

pub returns : goal.returns
returns c =
    both_put (map state_of c.args.states.now) c.args.set.now c.in_ok-tables.tables.items c.as_slice.result.now c.as_slice-3.result.now
    (seen c.as_slice-2.result.now) (seen c.as_slice-4.result.now) c.new-items.result.items c.put_chosen.new.items.items
    c.put_chosen-2.new.items.items c.in_ok-tables.ensures c.as_slice.ensures.value c.as_slice-3.ensures.value
    (ap seen c.as_slice-2.ensures.value ∙ c.in_ok-methods.ensures) (ap seen c.as_slice-4.ensures.value ∙ c.in_ok-methods.ensures)
    c.new-items.ensures.items c.in_ok-put_chosen.ensures c.in_ok-put_chosen-2.ensures
