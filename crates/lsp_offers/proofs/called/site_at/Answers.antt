use Rattle.lsp_offers.proofs.Placed.{found_there}
use Rattle.lsp_offers.proofs.called.site_at.Goals as goal

pub returns : goal.returns
returns c =
    found_there c.args.core.now c.args.place c.in_ok-sites.sites.items c.in_ok-sites.ensures c.as_slice.result.now c.as_slice.ensures.value
    c.site_among.result c.site_among.ensures
