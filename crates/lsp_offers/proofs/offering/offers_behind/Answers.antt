use Rattle.std.proofs.Common.{List, sym, subst, ◌∙◌}
use Rattle.std.proofs.lemmas.Result.{IfOk-weaker}
use Rattle.lsp_messages.specs.declared.outgoing.Item.{Item}
use Rattle.lsp_offers.specs.Offered as offered
use Rattle.lsp_offers.specs.Offered.{AreOfferedBehind}
use Rattle.lsp_offers.proofs.offering.offers_behind.Goals as goal

pub returns-in_ok-place-in-Some : goal.returns-in_ok-place-in-Some
returns-in_ok-place-in-Some c =
    IfOk-weaker c.offers.result _ _ (λ v are. offered.spot c.in-Some.spot (sym c.spot_at.ensures.value ∙ c.in-Some.is) are)
    c.offers.ensures

pub returns-in-None : goal.returns-in-None
returns-in-None c =
    subst (λ (items : List Item). AreOfferedBehind c.args.names.now c.args.contents.now c.args.file c.args.text.now c.args.offset items)
    (sym c.new.ensures.items) (offered.no_spot (sym c.spot_at.ensures.value ∙ c.in-None.is))
