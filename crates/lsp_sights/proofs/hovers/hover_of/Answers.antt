use Rattle.indexmap.specs.IndexMap.{get}
use Rattle.mg_shown.proofs.Seeing.{key_eq}
use Rattle.lsp_sights.proofs.Said.{hover_is}
use Rattle.lsp_sights.proofs.hovers.hover_of.Goals as goal

pub hover-requires : goal.hover-requires
hover-requires c = c.in_ok-met.ensures.made

pub returns : goal.returns
returns c =
    hover_is c.args.encoding c.args.text.now c.args.core.now c.in_ok-met.met c.in_ok-met.ensures c.as_slice.result.now
    c.as_slice.ensures.items (get key_eq c.in_ok-seen.seen) c.in_ok-seen.ensures c.args.call c.in_ok-said.said c.range_of.result
    c.in_ok-said.ensures c.range_of.ensures.begins c.range_of.ensures.ends
