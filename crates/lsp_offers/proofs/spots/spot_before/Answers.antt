use Rattle.lsp_offers.proofs.Backwards.{spot_there, spot_nowhere}
use Rattle.lsp_offers.proofs.spots.spot_before.Goals as goal

pub returns-then-is_spot-clause-value : goal.returns-then-is_spot-clause-value
returns-then-is_spot-clause-value c =
    spot_there c.args.text.now c.args.dot c.begin_of-start.result c.begin_of-start.ensures.value c.if-is_spot.ensures

pub returns-clause-value : goal.returns-clause-value
returns-clause-value c =
    spot_nowhere c.args.text.now c.args.dot c.begin_of-start.result c.begin_of-start.ensures.value c.if-is_spot.ensures
