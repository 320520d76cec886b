use Rattle.std.proofs.Common.{true, refl}
use Rattle.lsp_offers.proofs.Meeting.{text_there}
use Rattle.lsp_offers.proofs.firsts.note.Goals as goal

pub returns-then-is_met-clause-texts : goal.returns-then-is_met-clause-texts
returns-then-is_met-clause-texts c = text_there c.args.met.now c.args.text.now true c.if-is_met.ensures refl
