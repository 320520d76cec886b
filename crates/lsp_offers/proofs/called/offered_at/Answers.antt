use Rattle.std.proofs.lemmas.Result.{IfOk-weaker}
use Rattle.indexmap.specs.IndexMap.{get}
use Rattle.mg_shown.proofs.Seeing.{key_eq}
use Rattle.lsp_offers.proofs.Placed.{items_seen}
use Rattle.lsp_offers.proofs.called.offered_at.Goals as goal

pub returns : goal.returns
returns c =
    IfOk-weaker c.offered_by.result _ _ (λ v is.
    items_seen c.args.core.now c.in_ok-met.met c.in_ok-met.ensures c.as_slice.result.now c.as_slice.ensures.items
    (get key_eq c.in_ok-seen.seen) c.in_ok-seen.ensures c.args.site v.items is) c.offered_by.ensures
