use Rattle.std.proofs.Common.{take}
use Rattle.std.specs.Prelude.{All}
use Rattle.lsp_offers.proofs.Placed.{IsElsewhere}
use Rattle.lsp_offers.proofs.called.site_among.Given as goal

abbrev pub invariant-loop-site : goal.invariant-loop-site
invariant-loop-site l = All (IsElsewhere l.place) (take l.site-index l.sites)
