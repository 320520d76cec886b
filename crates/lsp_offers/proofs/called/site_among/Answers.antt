use Rattle.std.proofs.Common.{arith}
use Rattle.lsp_offers.proofs.Placed.{elsewhere_more, all_elsewhere}
use Rattle.lsp_offers.proofs.called.site_among.Goals as goal

pub loop-site-preserved : goal.loop-site-preserved
loop-site-preserved c =
    elsewhere_more c.args.place c.args.sites.now c.loop-site.site-index _ (omega arith) c.loop-site.invariant c.if-same_place.ensures

pub returns : goal.returns
returns c = all_elsewhere c.args.place c.args.sites.now c.loop-site.site-index (omega arith) c.loop-site.invariant
