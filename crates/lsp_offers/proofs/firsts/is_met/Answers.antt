use Rattle.lsp_offers.proofs.Meeting.{any_found}
use Rattle.lsp_offers.proofs.firsts.is_met.Goals as goal

pub returns : goal.returns
returns c = any_found (λ n. n.0) c.args.text.now c.args.met.now c.find.result c.is_some.result c.find.ensures c.is_some.ensures
