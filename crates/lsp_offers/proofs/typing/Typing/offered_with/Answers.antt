use Rattle.std.proofs.lemmas.Result.{IfOk-weaker}
use Rattle.lsp_offers.proofs.Trying.{by_found, by_none}
use Rattle.lsp_offers.proofs.typing.Typing.offered_with.Goals as goal

pub returns-in-Some : goal.returns-in-Some
returns-in-Some c =
    IfOk-weaker c.items_in.result _ _ (λ o are.
    by_found c.args.self.now c.requires c.args.attempt.now c.in_ok-core.field-0 c.in-Some.core c.in_ok-core.ensures c.in-Some.is o are)
    c.items_in.ensures

pub returns-in-None : goal.returns-in-None
returns-in-None c = by_none c.args.self.now c.args.attempt.now c.in_ok-core.field-0 c.in_ok-core.ensures c.in-None.is
